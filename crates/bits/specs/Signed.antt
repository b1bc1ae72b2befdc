-- Two's complement in any width: document 01, "The record". For the auditor.
use Rattle.std.specs.Prelude.{cond, ℕ, suc, ◌*◌, ◌-◌, ◌^◌, ltb, ℤ, pos, negsuc}

-- the unsigned number of `width` bits that stands for a signed one
abbrev pub complement : ℕ → ℤ → ℕ
complement width (pos number) = number
complement width (negsuc below) = 2 ^ width - suc below

-- the signed number that an unsigned one of `width` bits stands for: below zero where the first bit is set
abbrev pub signed_of : ℕ → ℕ → ℤ
signed_of width number = cond (ltb (2 * number) (2 ^ width)) (pos number) (negsuc (2 ^ width - suc number))
