-- The bottom-up pass over two children each, document 000, section 6.1: a node's row from the rows of its children.
-- A value costs each child its number, and one more where it is not in the child's set. So where the sets meet, the values in both cost least,
-- and where they are apart, every value is missed by one set at least and the values in either cost least.
use mathlib.Core.Path.{◌≡◌, refl, ap, ◌∙◌}
use mathlib.Core.Bool.{Bool, true, false, ◌&&◌, ◌||◌}
use Prim.Native.Nat.{ℕ, suc, ◌+◌, ◌*◌, ◌≤◌}
use native.Mathlib.Omega.{arith}
use lib.Dec.{T}
use mir.Facts.{yes_and}
use Rattle.fewest.specs.Node.{missed, cheapest}
use Rattle.fewest.specs.Tree.{binary, total}
use Rattle.fewest.specs.Cost.{cost}
use Rattle.fewest.specs.Row.{Row}
use Rattle.fewest.proofs.LowerBound.{passed_not_missed}
use Rattle.fewest.proofs.Rows.{row_needs}

-- where two tests pass, neither is missed
both_passed : (a b : Bool) → T (a && b) → missed a + missed b ≡ 0
both_passed true true passes = refl
both_passed false b passes = elim passes [ ]
both_passed true false passes = elim passes [ ]

-- where one of two tests is missed, both together are
both_missed_at_most : (a b : Bool) → missed (a && b) ≤ missed a + missed b
both_missed_at_most true b = omega arith
both_missed_at_most false b = omega arith

-- of two tests that do not pass together one is missed, and the other as well where neither passes
one_missed : (a b : Bool) → (T a → T b → ⊥) → missed a + missed b ≡ 1 + missed (a || b)
one_missed true true apart = absurd (apart tt tt)
one_missed true false apart = refl
one_missed false true apart = refl
one_missed false false apart = refl

-- where the first of two tests passes, one of them does
either_passes : (a b : Bool) → T a → T (a || b)
either_passes true b passes = tt
either_passes false b passes = elim passes [ ]

module _ (accepts : ℕ → ℕ → Bool) (top height i : ℕ) {s t : ℕ} {left right : ℕ → Bool}
    (left-row : Row top (cost binary accepts top height (2 * i)) s left) (right-row : Row top (cost binary accepts top height (2 * i + 1)) t right) where
  -- what a value costs the node, by the sets of its children
  children_cost : (v : ℕ) → v ≤ top → cost binary accepts top (suc height) i v ≡ s + t + missed (left v) + missed (right v)
  unfolding cost total binary
  children_cost v within =
      let first : 2 * i + 0 ≡ 2 * i = omega arith in
      omega (arith, ap (λ n. cheapest top (cost binary accepts top height n) v) first ∙ row_needs left-row v within, row_needs right-row v within)

  -- the sets meet: the sum of the numbers, and what is in both
  pub sets_meet : (w : ℕ) → w ≤ top → T (left w) → T (right w) → Row top (cost binary accepts top (suc height) i) (s + t) (λ v. left v && right v)
  sets_meet w w-within in_left in_right = record {
    at_least = λ v within. omega (arith, children_cost v within, both_missed_at_most (left v) (right v));
    inside_costs = λ v within inside. omega (arith, children_cost v within, both_passed (left v) (right v) inside);
    not_empty = record { value = w; within = w-within; inside = yes_and (left w) (right w) in_left in_right };
  }

  -- the sets are apart: one more than the sum, and what is in either
  pub sets_apart : ((v : ℕ) → v ≤ top → T (left v) → T (right v) → ⊥) → Row top (cost binary accepts top (suc height) i) (s + t + 1) (λ v. left v || right v)
  sets_apart apart =
      let some_left = left-row.not_empty in
      record {
        at_least = λ v within. omega (arith, children_cost v within, one_missed (left v) (right v) (apart v within));
        inside_costs = λ v within inside.
            omega (arith, children_cost v within, one_missed (left v) (right v) (apart v within), passed_not_missed (left v || right v) inside);
        not_empty = record {
          value = some_left.value;
          within = some_left.within;
          inside = either_passes (left some_left.value) (right some_left.value) some_left.inside;
        };
      }
