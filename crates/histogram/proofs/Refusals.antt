-- What follows where a synopsis is not refused.
use mathlib.Core.Path.{◌≡◌, sym, subst}
use mathlib.Core.Bool.{false, not}
use mathlib.Core.List.{List}
use Prim.Native.Nat.{ℕ, ◌≤◌}
use lib.Dec.{T}
use lib.IntN.{ℤ, nat_abs}
use borrow.Author.Tests.{ltb-false, not-false}
use Rattle.limits.specs.Limits.{beyond, outside_slots}
use Rattle.limits.proofs.Refusals.{passed, passed_last, SlotsWithin, slots_within}
use Rattle.histogram.specs.declared.Term.{Term}
use Rattle.histogram.specs.Tree.{padded}
use Rattle.histogram.specs.Terms.{valid}
use Rattle.histogram.proofs.Powers.{padded_bound}
use Rattle.histogram.specs.Restoring.{synopsis_refusal}

pub record Accepted (n : ℕ) (rest : ℤ) (terms : List Term) : Type 0 where
  pub slots : SlotsWithin n
  pub rest_within : nat_abs rest ≤ 20000
  pub terms_valid : T (valid n terms)

pub accepted : (n : ℕ) (rest : ℤ) (terms : List Term) → synopsis_refusal n rest terms ≡ 0 → Accepted n rest terms
accepted n rest terms none =
    let four = passed 3 (outside_slots n) _ none in
    let two = passed 1 (beyond 20000 rest) _ four.1 in
    record {
      slots = slots_within n four.0;
      rest_within = ltb-false 20000 (nat_abs rest) two.0;
      terms_valid = subst T (sym (not-false (valid n terms) (passed_last 7 (not (valid n terms)) two.1))) tt;
    }

-- a padded length is 512 at most: of a profile whose slots are not refused, and of one whose synopsis is not
pub padded_inside : (n : ℕ) → outside_slots n ≡ false → padded n ≤ 512
padded_inside n inside = padded_bound (slots_within n inside).few_slots

pub padded_few : (n : ℕ) (rest : ℤ) (terms : List Term) → synopsis_refusal n rest terms ≡ 0 → padded n ≤ 512
padded_few n rest terms none = padded_bound (accepted n rest terms none).slots.few_slots
