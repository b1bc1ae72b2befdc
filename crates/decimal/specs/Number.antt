-- What a field of bytes reads as: document 01, "Setpoints as typed", with document 02's F-2. For the auditor.
use Rattle.std.specs.Prelude.{ℕ, zero, suc, ◌+◌, ◌-◌, ◌*◌, ◌/◌, Bool, cond, ◌&&◌, ◌||◌, List, [], ◌∷◌, length, drop, ℤ, pos, neg_ℤ, ◌==◌, nat_le}
use Rattle.std.proofs.Math.Option.{Option, none, some}

-- a digit: one of the bytes of 0 to 9
abbrev pub is_digit : ℕ → Bool
is_digit byte = nat_le 48 byte && nat_le byte 57

-- the number that a digit stands for
abbrev pub digit : ℕ → ℕ
digit byte = byte - 48

-- "The mark is a comma or a point"
abbrev pub is_mark : ℕ → Bool
is_mark byte = byte == 44 || byte == 46

-- F-2, "After a comma, three digits are now allowed", "After a point three digits stay a fault": how many digits may follow a mark
abbrev pub most_digits : ℕ → ℕ
most_digits mark = cond (mark == 44) 3 2

-- the bytes of the longest number: a minus, three digits, a comma and three digits
abbrev pub longest_number : ℕ
longest_number = 1 + 3 + 1 + 3

-- the digits that a field begins with, `most` of them at the most
unfoldable pub leading_digits : ℕ → List ℕ → List ℕ
leading_digits zero field = []
leading_digits (suc most) [] = []
leading_digits (suc most) (byte ∷ field) = cond (is_digit byte) (byte ∷ leading_digits most field) []

-- the number that digits write after those that write `before`
unfoldable pub decimal : ℕ → List ℕ → ℕ
decimal before [] = before
decimal before (byte ∷ digits) = decimal (10 * before + digit byte) digits

-- F-2, "the third is rounded half away from zero": thousandths without their sign, in hundredths
abbrev pub rounded : ℕ → ℕ
rounded thousandths = (thousandths + 5) / 10

-- the digits after a mark, in hundredths: "One digit after the mark is tenths"
abbrev pub hundredths : List ℕ → Option ℕ
hundredths [] = none
hundredths (first ∷ []) = cond (is_digit first) (some (10 * digit first)) none
hundredths (first ∷ second ∷ []) = cond (is_digit first && is_digit second) (some (10 * digit first + digit second)) none
hundredths (first ∷ second ∷ third ∷ []) = cond (is_digit first && is_digit second && is_digit third) (some (rounded (100 * digit first + 10 * digit second + digit third))) none
hundredths (first ∷ second ∷ third ∷ fourth ∷ field) = none

-- what follows the units: nothing, "a mark and one or two digits", or a comma and three
abbrev pub fraction : List ℕ → Option ℕ
fraction [] = some 0
fraction (byte ∷ field) = cond (is_mark byte && nat_le (length field) (most_digits byte)) (hundredths field) none

-- whole hundredths and a part of one unit, where there is such a part
abbrev pub added : ℕ → Option ℕ → Option ℕ
added whole none = none
added whole (some part) = some (whole + part)

-- "one to three digits", the units, and what follows them; "all bytes of the field belong to the number"
abbrev pub unsigned : List ℕ → Option ℕ
unsigned field =
    let units : List ℕ = leading_digits 3 field in
    cond (length units == 0) none (added (100 * decimal 0 units) (fraction (drop (length units) field)))

-- the number below zero
abbrev pub negated : ℕ → ℤ
negated number = neg_ℤ (pos number)

-- with its sign, where there is a number
abbrev pub signed : (ℕ → ℤ) → Option ℕ → Option ℤ
signed sign none = none
signed sign (some number) = some (sign number)

-- "A number is an optional minus", then the rest: the value of a field in hundredths, none where the field is no number
abbrev pub reads_as : List ℕ → Option ℤ
reads_as [] = none
reads_as (byte ∷ field) = cond (byte == 45) (signed negated (unsigned field)) (signed pos (unsigned (byte ∷ field)))
