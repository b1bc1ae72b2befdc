use Rattle.std.proofs.Common.{◌≡◌, ℕ, suc, ◌+◌, ◌-◌, ◌*◌, ◌<◌, ◌≤◌, true, List, [], ◌∷◌, get_or, drop, sym, refl, ap, ◌∙◌, arith, length-drop, get_or-drop, drop-drop}
use Rattle.std.proofs.lemmas.Bool.{false_from_ne_true}
use Rattle.decimal.specs.Number.{is_digit, digit, leading_digits, decimal}
use Rattle.decimal.specs.Inner.{UnitsRead}
use Rattle.decimal.proofs.Range.{digit_small, written_before, three_digits_write}
use Rattle.decimal.proofs.Units.{digit_inside, no_leading, next_leading}
use Rattle.decimal.proofs.read.read_units.Goals as goal
use Rattle.decimal.proofs.read.read_units.Invariants.{left, SoFar}

begun : (bytes : List ℕ) → SoFar bytes 0 0
unfolding left
begun bytes = record { in_field = omega arith; counted = omega arith; written = refl }

module _ (bytes : List ℕ) (count units : ℕ) (so_far : SoFar bytes count units) where
  below_thousand : units ≤ 999
  below_thousand = omega (arith, written_before units (left bytes count), so_far.written, three_digits_write bytes)

  -- no digit follows
  ended : left bytes count ≡ [] → UnitsRead bytes count units
  unfolding decimal
  ended nothing = record {
    count_is = sym (so_far.counted ∙ rw nothing (omega arith));
    units_is = sym (so_far.written ∙ rw nothing refl);
    in_field = so_far.in_field;
    below_thousand = below_thousand;
  }

  three_read : 3 ≤ count → UnitsRead bytes count units
  unfolding left leading_digits
  three_read all = let none_left : 3 - count ≡ 0 = omega arith in ended (rw none_left)

  -- the byte at `count` is the first of those that are left
  here : get_or (drop count bytes) 0 0 ≡ get_or bytes count 0
  here = get_or-drop count bytes 0 0 ∙ ap (λ (at : ℕ). get_or bytes at 0) (omega arith)

  no_digit_here : (is_digit (get_or bytes count 0) ≡ true → ⊥) → UnitsRead bytes count units
  unfolding left
  no_digit_here no_digit = ended (no_leading (3 - count) (drop count bytes) (rw here (false_from_ne_true _ no_digit)))

  read_on : (digit-here : ℕ) → count < 3 → (is_digit (get_or bytes count 0) ≡ true) × (digit-here ≡ digit (get_or bytes count 0)) → SoFar bytes (count + 1) (units * 10 + digit-here)
  unfolding left decimal
  read_on digit-here room read =
      let rest = drop count bytes in
      let a_digit : is_digit (get_or rest 0 0) ≡ true = rw here read.0 in
      let one_more : 3 - count ≡ suc (3 - (count + 1)) = omega arith in
      let next : left bytes count ≡ get_or rest 0 0 ∷ left bytes (count + 1) = rw one_more (next_leading (3 - (count + 1)) rest a_digit ∙ rw (drop-drop 1 count bytes)) in
      let joined : 10 * units + digit (get_or rest 0 0) ≡ units * 10 + digit-here = rw here (omega (arith, read.1)) in
      record {
        in_field = omega (arith, digit_inside rest a_digit, length-drop count bytes);
        counted = so_far.counted ∙ rw next (omega arith);
        written = so_far.written ∙ rw next (ap (λ (u : ℕ). decimal u (left bytes (count + 1))) joined);
      }

pub loop-count-init : goal.loop-count-init
loop-count-init c = begun c.args.bytes.now

pub returns-in_default : goal.returns-in_default
returns-in_default c = no_digit_here c.args.bytes.now _ _ c.loop-count.invariant c.in_default.ensures

pub overflow_mul-units : goal.overflow_mul-units
overflow_mul-units c = record { fits = omega (arith, below_thousand _ _ _ c.loop-count.invariant) }

pub overflow_add-units : goal.overflow_add-units
overflow_add-units c =
    let digit = c.in-Some in
    record { fits = omega (arith, below_thousand _ _ _ c.loop-count.invariant, digit.ensures.1, digit_small (get_or c.args.bytes.now c.loop-count.count 0) digit.ensures.0) }

pub loop-count-preserved : goal.loop-count-preserved
loop-count-preserved c = read_on c.args.bytes.now _ _ c.loop-count.invariant _ c.loop-count-test.true c.in-Some.ensures

pub returns : goal.returns
returns c =
    let all : c.loop-count.count ≡ 3 = omega (arith, c.loop-count.auto.count-end, c.loop-count-test.false) in
    rw all at (three_read c.args.bytes.now _ _ c.loop-count.invariant c.loop-count-test.false)
