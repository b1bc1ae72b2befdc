-- `decimal::read::after_mark` meets its contract: no digit follows the mark, one, two, or three where it allows them.
use Rattle.std.proofs.Common.{◌≡◌, ℕ, ◌+◌, ◌*◌, ◌<◌, ◌≤◌, Bool, true, false, cond, eqb, List, length, get_or, refl, arith}
use Rattle.std.proofs.lemmas.Bool.{false_from_ne_true}
use mathlib.Core.Bool.{and-false}
use Rattle.decimal.specs.Number.{is_digit, digit, rounded}
use Rattle.decimal.specs.Inner.{with_units, Marked, PartRead, DigitsRead}
use Rattle.decimal.proofs.Fractions.{has_third, mark_alone, one_digit, two_digits, three_digits}
use Rattle.decimal.proofs.Range.{digit_small}
use Rattle.decimal.proofs.WithUnits.{with_fraction, without}
use Rattle.decimal.proofs.read.after_mark.Goals as goal

-- a mark that allows three digits is a comma
no_comma : (comma : Bool) (most : ℕ) → most ≡ cond comma 3 2 → most < 3 → comma ≡ false
no_comma true most is less = absurd (omega arith)
no_comma false most is less = refl

is_comma : (comma : Bool) (most : ℕ) → most ≡ cond comma 3 2 → 3 ≤ most → comma ≡ true
is_comma true most is enough = refl
is_comma false most is enough = absurd (omega arith)

module _ {units : ℕ} {bytes : List ℕ} {most first second third : ℕ} (asked : (units ≤ 999) × Marked bytes most) (read : DigitsRead bytes first second third) where
  nothing : (number count : ℕ) → (is_digit first ≡ true → ⊥) → number ≡ 0 → count ≡ length bytes + 1 → PartRead (with_units units) bytes number count
  nothing number count no_digit =
      without units asked.0 bytes number count (λ place. mark_alone bytes place asked.1.at_mark (rw read.first at (false_from_ne_true _ no_digit)))

  module _ {tenths : ℕ} (one : (is_digit first ≡ true) × (tenths ≡ digit first)) where
    first_there : is_digit (get_or bytes 1 0) ≡ true
    first_there = rw read.first at one.0

    first_small : tenths ≤ 9
    first_small = omega (arith, one.1, digit_small first one.0)

    tenths_only : (is_digit second ≡ true → ⊥) → PartRead (with_units units) bytes ((units * 10 + tenths) * 10) 2
    tenths_only no_digit =
        with_fraction units asked.0 bytes _ 2 _ (one_digit bytes asked.1.at_mark first_there (rw read.second at (false_from_ne_true _ no_digit)))
        (omega (arith, one.1, first_small, read.first)) (omega (arith, one.1, read.first))

    module _ {hundredths : ℕ} (other : (is_digit second ≡ true) × (hundredths ≡ digit second)) where
      second_there : is_digit (get_or bytes 2 0) ≡ true
      second_there = rw read.second at other.0

      second_small : hundredths ≤ 9
      second_small = omega (arith, other.1, digit_small second other.0)

      two : has_third bytes ≡ false → PartRead (with_units units) bytes ((units * 10 + tenths) * 10 + hundredths) 3
      two no_third =
          with_fraction units asked.0 bytes _ 3 _ (two_digits bytes asked.1.at_mark first_there second_there no_third)
          (omega (arith, one.1, other.1, first_small, second_small, read.first, read.second)) (omega (arith, one.1, other.1, read.first, read.second))

      no_third_allowed : most < 3 → PartRead (with_units units) bytes ((units * 10 + tenths) * 10 + hundredths) 3
      no_third_allowed less = two (rw (no_comma (eqb (get_or bytes 0 0) 44) most asked.1.most_is less))

      no_third_there : (is_digit third ≡ true → ⊥) → PartRead (with_units units) bytes ((units * 10 + tenths) * 10 + hundredths) 3
      no_third_there no_digit =
          let not_digit : is_digit (get_or bytes 3 0) ≡ false = rw read.third at (false_from_ne_true _ no_digit) in
          two (rw not_digit (and-false (eqb (get_or bytes 0 0) 44)))

      three : {thousandths : ℕ} (number : ℕ) → 3 ≤ most → (is_digit third ≡ true) × (thousandths ≡ digit third)
          → number ≡ rounded (10 * ((units * 10 + tenths) * 10 + hundredths) + thousandths) → PartRead (with_units units) bytes number 4
      three number enough last is =
          let third_there : is_digit (get_or bytes 3 0) ≡ true = rw read.third at last.0 in
          let comma = is_comma (eqb (get_or bytes 0 0) 44) most asked.1.most_is enough in
          with_fraction units asked.0 bytes _ 4 number (three_digits bytes comma first_there second_there third_there)
          (omega (arith, one.1, other.1, last.1, first_small, second_small, digit_small third last.0, read))
          (omega (arith, is, one.1, other.1, last.1, read))

pub returns-in_default : goal.returns-in_default
returns-in_default c = nothing c.requires c.digits_after-digits.ensures _ _ c.in_default.ensures c.no_number.ensures.0 c.no_number.ensures.1

pub returns-in_default-digit_of : goal.returns-in_default-digit_of
returns-in_default-digit_of c = tenths_only c.requires c.digits_after-digits.ensures c.in-Some.ensures c.in_default-digit_of.ensures

pub returns-in-Some-digit_of-2 : goal.returns-in-Some-digit_of-2
returns-in-Some-digit_of-2 c =
    three c.requires c.digits_after-digits.ensures c.in-Some.ensures c.in-Some-digit_of.ensures _ c.if-most-ge3.true c.in-Some-digit_of-2.ensures c.rounded_by.ensures

pub returns-in_default-digit_of-2 : goal.returns-in_default-digit_of-2
returns-in_default-digit_of-2 c =
    no_third_allowed c.requires c.digits_after-digits.ensures c.in-Some.ensures c.in-Some-digit_of.ensures c.if-most-ge3.false

pub returns-in_default-digit_of-2-2 : goal.returns-in_default-digit_of-2-2
returns-in_default-digit_of-2-2 c =
    no_third_there c.requires c.digits_after-digits.ensures c.in-Some.ensures c.in-Some-digit_of.ensures c.in_default-digit_of-2.ensures
