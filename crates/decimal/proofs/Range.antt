-- A number by itself lies within ±100,000: three digits write at most 999 units, and those after a mark at most one unit more.
use Rattle.std.proofs.Common.{◌≡◌, ℕ, zero, suc, ◌+◌, ◌*◌, ◌≤◌, Bool, true, false, cond, ◌&&◌, eqb, leb, List, [], ◌∷◌, length, drop, pos, nat_abs, refl, arith, leb-true}
use mathlib.Core.Option.{Option, none, some}
use Rattle.limits.proofs.Tests.{both_hold}
use Rattle.decimal.specs.Number.{is_digit, digit, is_mark, most_digits, leading_digits, decimal, hundredths, fraction, added, unsigned, negated, signed, reads_as}
use Rattle.decimal.specs.Answers.{number_or}

pub digit_small : (byte : ℕ) → is_digit byte ≡ true → digit byte ≤ 9
digit_small byte a_digit = omega (arith, leb-true byte 57 (both_hold (leb 48 byte) (leb byte 57) a_digit).1)

-- more digits never make a number smaller
pub written_before : (before : ℕ) (digits : List ℕ) → before ≤ decimal before digits
unfolding decimal
written_before before [] = omega arith
written_before before (byte ∷ digits) = omega (arith, written_before (10 * before + digit byte) digits)

-- the number that so many nines write after the digits that write `before`
nines : ℕ → ℕ → ℕ
nines zero before = before
nines (suc digits) before = nines digits (10 * before + 9)

nines_rise : (digits one other : ℕ) → one ≤ other → nines digits one ≤ nines digits other
unfolding nines
nines_rise zero one other less = less
nines_rise (suc digits) one other less = nines_rise digits (10 * one + 9) (10 * other + 9) (omega arith)

nines_before : (digits before : ℕ) → before ≤ nines digits before
unfolding nines
nines_before zero before = omega arith
nines_before (suc digits) before = omega (arith, nines_before digits (10 * before + 9))

at_most_nines : (most before : ℕ) (field : List ℕ) → decimal before (leading_digits most field) ≤ nines most before
unfolding leading_digits decimal nines
at_most_nines zero before field = omega arith
at_most_nines (suc most) before [] = nines_before (suc most) before
at_most_nines (suc most) before (byte ∷ field) = by_first (is_digit byte) refl (at_most_nines most (10 * before + digit byte) field)
  where
    by_first : (a_digit : Bool) → is_digit byte ≡ a_digit → decimal (10 * before + digit byte) (leading_digits most field) ≤ nines most (10 * before + digit byte)
        → decimal before (cond a_digit (byte ∷ leading_digits most field) []) ≤ nines most (10 * before + 9)
    by_first true is shorter = omega (arith, shorter, nines_rise most (10 * before + digit byte) (10 * before + 9) (omega (arith, digit_small byte is)))
    by_first false is shorter = nines_before (suc most) before

pub three_digits_write : (field : List ℕ) → decimal 0 (leading_digits 3 field) ≤ 999
unfolding nines
three_digits_write field = at_most_nines 3 0 field

-- a number that is there by a test
by_test : (test : Bool) (number most : ℕ) → (test ≡ true → number ≤ most) → number_or 0 (cond test (some number) none) ≤ most
by_test true number most small = small refl
by_test false number most small = omega arith

hundredths_small : (field : List ℕ) → number_or 0 (hundredths field) ≤ 100
hundredths_small [] = omega arith
hundredths_small (first ∷ []) = by_test (is_digit first) (10 * digit first) 100 (λ one. omega (arith, digit_small first one))
hundredths_small (first ∷ second ∷ []) =
    by_test (is_digit first && is_digit second) _ 100 λ both.
    let digits = both_hold (is_digit first) (is_digit second) both in
    omega (arith, digit_small first digits.0, digit_small second digits.1)
hundredths_small (first ∷ second ∷ third ∷ []) =
    by_test (is_digit first && is_digit second && is_digit third) _ 100 λ all.
    let two = both_hold (is_digit first && is_digit second) (is_digit third) all in
    let digits = both_hold (is_digit first) (is_digit second) two.0 in
    omega (arith, digit_small first digits.0, digit_small second digits.1, digit_small third two.1)
hundredths_small (first ∷ second ∷ third ∷ fourth ∷ field) = omega arith

-- one of two numbers by a test
either : (test : Bool) (one other : Option ℕ) (most : ℕ) → number_or 0 one ≤ most → number_or 0 other ≤ most → number_or 0 (cond test one other) ≤ most
either true one other most Small-one small-other = Small-one
either false one other most Small-one small-other = small-other

fraction_small : (field : List ℕ) → number_or 0 (fraction field) ≤ 100
fraction_small [] = omega arith
fraction_small (byte ∷ field) = either (is_mark byte && leb (length field) (most_digits byte)) (hundredths field) none 100 (hundredths_small field) (omega arith)

added_small : (whole : ℕ) (part : Option ℕ) → number_or 0 (added whole part) ≤ whole + number_or 0 part
added_small whole none = omega arith
added_small whole (some part) = omega arith

unsigned_small : (field : List ℕ) → number_or 0 (unsigned field) ≤ 100000
unsigned_small field =
    let units : List ℕ = leading_digits 3 field in
    let rest : List ℕ = drop (length units) field in
    either (eqb (length units) 0) none (added (100 * decimal 0 units) (fraction rest)) 100000 (omega arith)
    (omega (arith, three_digits_write field, fraction_small rest, added_small (100 * decimal 0 units) (fraction rest)))

plain_small : (number : Option ℕ) → nat_abs (number_or (pos 0) (signed pos number)) ≤ number_or 0 number
plain_small none = omega arith
plain_small (some number) = omega arith

negated_small : (number : Option ℕ) → nat_abs (number_or (pos 0) (signed negated number)) ≤ number_or 0 number
negated_small none = omega arith
negated_small (some zero) = omega arith
negated_small (some (suc number)) = omega arith

-- what a field reads as, 0 where it is no number
pub number_within : (field : List ℕ) → nat_abs (number_or (pos 0) (reads_as field)) ≤ 100000
number_within [] = omega arith
number_within (byte ∷ field) = by_sign (eqb byte 45)
  where
    by_sign : (minus : Bool) → nat_abs (number_or (pos 0) (cond minus (signed negated (unsigned field)) (signed pos (unsigned (byte ∷ field))))) ≤ 100000
    by_sign true = omega (arith, negated_small (unsigned field), unsigned_small field)
    by_sign false = omega (arith, plain_small (unsigned (byte ∷ field)), unsigned_small (byte ∷ field))
