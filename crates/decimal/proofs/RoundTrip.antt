-- What is written reads as the value it came from: one case for each number of digits before the comma.
use Rattle.std.proofs.Common.{◌≡◌, ℕ, suc, ◌+◌, ◌*◌, ◌/◌, ◌%◌, ◌<◌, ◌≤◌, Bool, true, false, ltb, List, [], ◌∷◌, ℤ, pos, negsuc, nat_abs, refl, ap, ◌∙◌, arith, ltb-true, ne_eqb, le-leb}
use mathlib.Core.Option.{some}
use Rattle.decimal.specs.Number.{is_digit, leading_digits, decimal, unsigned, signed, negated, reads_as}
use Rattle.decimal.specs.Written.{digit_byte, written_unsigned, written}

digit_written : (number : ℕ) → number ≤ 9 → is_digit (digit_byte number) ≡ true
digit_written number small = rw (le-leb 48 (48 + number) (omega arith), le-leb (48 + number) 57 (omega arith))

module _ (tenths rest : ℕ) (small-tenths : tenths ≤ 9) (small-rest : rest ≤ 9) where
  after : List ℕ
  after = 44 ∷ digit_byte tenths ∷ digit_byte rest ∷ []

  one_digit : (units : ℕ) → units ≤ 9 → unsigned (digit_byte units ∷ after) ≡ some (100 * units + (10 * tenths + rest))
  unfolding after leading_digits decimal
  one_digit units small = rw (digit_written units small, digit_written tenths small-tenths, digit_written rest small-rest) (ap some (omega arith))

  two_digits : (tens units : ℕ) → tens ≤ 9 → units ≤ 9 → unsigned (digit_byte tens ∷ digit_byte units ∷ after) ≡ some (100 * (10 * tens + units) + (10 * tenths + rest))
  unfolding after leading_digits decimal
  two_digits tens units small-tens small =
      rw (digit_written tens small-tens, digit_written units small, digit_written tenths small-tenths, digit_written rest small-rest) (ap some (omega arith))

  three_digits : (hundreds tens units : ℕ) → hundreds ≤ 9 → tens ≤ 9 → units ≤ 9
      → unsigned (digit_byte hundreds ∷ digit_byte tens ∷ digit_byte units ∷ after) ≡ some (100 * (100 * hundreds + (10 * tens + units)) + (10 * tenths + rest))
  unfolding after leading_digits decimal
  three_digits hundreds tens units small-hundreds small-tens small =
      rw (digit_written hundreds small-hundreds, digit_written tens small-tens, digit_written units small, digit_written tenths small-tenths, digit_written rest small-rest)
      (ap some (omega arith))

-- what an unsigned number reads as, and that its text does not begin with a minus
record ReadsBack (text : List ℕ) (number : ℕ) : Type 0 where
  plain : reads_as text ≡ some (pos number)
  after_minus : reads_as (45 ∷ text) ≡ some (negated number)

reads_back : (first : ℕ) (rest : List ℕ) (number : ℕ) → first ≤ 9 → unsigned (digit_byte first ∷ rest) ≡ some number → ReadsBack (digit_byte first ∷ rest) number
reads_back first rest number small is =
    record { plain = rw (ne_eqb (48 + first) 45 (λ minus. omega arith)) (ap (signed pos) is); after_minus = ap (signed negated) is }

unsigned_back : (number : ℕ) → number < 100000 → ReadsBack (written_unsigned number) number
unfolding after
unsigned_back number small = by_length (ltb (number / 100) 10) (ltb (number / 100) 100) refl refl
  where
    by_length : (below-ten below-hundred : Bool) → ltb (number / 100) 10 ≡ below-ten → ltb (number / 100) 100 ≡ below-hundred → ReadsBack (written_unsigned number) number
    by_length true below-hundred ten hundred =
        let less = ltb-true (number / 100) 10 ten in
        rw ten
        (reads_back (number / 100) _ number (omega arith) (one_digit (number / 10 % 10) (number % 10) (omega arith) (omega arith) (number / 100) (omega arith) ∙ ap some (omega arith)))
    by_length false true ten hundred =
        let less = ltb-true (number / 100) 100 hundred in
        rw (ten, hundred)
        (reads_back (number / 100 / 10) _ number (omega arith)
        (two_digits (number / 10 % 10) (number % 10) (omega arith) (omega arith) (number / 100 / 10) (number / 100 % 10) (omega arith) (omega arith) ∙ ap some (omega arith)))
    by_length false false ten hundred =
        rw (ten, hundred)
        (reads_back (number / 100 / 100) _ number (omega arith)
        (three_digits (number / 10 % 10) (number % 10) (omega arith) (omega arith) (number / 100 / 100) (number / 100 / 10 % 10) (number / 100 % 10) (omega arith) (omega arith) (omega arith)
        ∙ ap some (omega arith)))

-- for all values within ±40,000
pub number_reads_back : (value : ℤ) → nat_abs value ≤ 40000 → reads_as (written value) ≡ some value
number_reads_back (pos number) small = (unsigned_back number (omega arith)).plain
number_reads_back (negsuc below) small = (unsigned_back (suc below) (omega arith)).after_minus
