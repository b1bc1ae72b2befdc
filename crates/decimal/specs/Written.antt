-- How a value is written out: document 01, "Setpoints as typed". For the auditor.
use Rattle.std.specs.Prelude.{ℕ, ◌+◌, ◌/◌, ◌%◌, cond, List, [], ◌∷◌, ◌++◌, ℤ, pos, negsuc, nat_lt, unsigned_abs}

-- the byte of a number below 10
abbrev pub digit_byte : ℕ → ℕ
digit_byte number = 48 + number

-- a whole number below 1,000, with "no leading zero before the units digit"
abbrev pub written_units : ℕ → List ℕ
written_units number =
    cond (nat_lt number 10) (digit_byte number ∷ [])
    (cond (nat_lt number 100) (digit_byte (number / 10) ∷ digit_byte (number % 10) ∷ [])
    (digit_byte (number / 100) ∷ digit_byte (number / 10 % 10) ∷ digit_byte (number % 10) ∷ []))

-- hundredths: the units, "a comma and two digits"
abbrev pub written_unsigned : ℕ → List ℕ
written_unsigned number = written_units (number / 100) ++ 44 ∷ digit_byte (number / 10 % 10) ∷ digit_byte (number % 10) ∷ []

-- "minus only below zero"
abbrev pub written_sign : ℤ → List ℕ
written_sign (pos number) = []
written_sign (negsuc below) = 45 ∷ []

-- a value in hundredths, within ±40,000
abbrev pub written : ℤ → List ℕ
written value = written_sign value ++ written_unsigned (unsigned_abs value)
