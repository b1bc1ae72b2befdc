-- The fill: bits that write 0 are zeros, and zeros write 0.
use mathlib.Core.Path.{◌≡◌, refl, sym, ap, ◌∙◌}
use mathlib.Core.List.{List, ◌∷◌}
use Prim.Native.Nat.{ℕ, zero, suc, ◌^◌}
use native.Mathlib.Nat.{zero-div}
use native.Mathlib.Omega.{arith}
use lib.ListN.{length, replicate}
use Rattle.bits.specs.Bits.{bits, number_of}
use Rattle.bits.specs.Inner.{Below}
use Rattle.bits.proofs.Fields.{bits_of_number}

pub bits_of_zero : (width : ℕ) → bits width 0 ≡ replicate width 0
unfolding bits
bits_of_zero zero = refl
bits_of_zero (suc width) = rw (zero-div (2 ^ width)) (ap (λ (l : List ℕ). 0 ∷ l) (bits_of_zero width))

pub zeros : (field : List ℕ) → Below 2 field → number_of field ≡ 0 → field ≡ replicate (length field) 0
zeros field all-bits none = sym (bits_of_number field all-bits) ∙ ap (bits (length field)) none ∙ bits_of_zero (length field)

pub number_of_zeros : (count : ℕ) → number_of (replicate count 0) ≡ 0
unfolding number_of
number_of_zeros zero = refl
number_of_zeros (suc count) = omega (arith, number_of_zeros count)
