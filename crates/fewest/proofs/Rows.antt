-- What a node's row says, for any number of children: how many terms its subtree needs, which term the walk makes there, and at the root the fewest terms.
-- The best value costs the row's number, since the set is not empty; a value outside it costs more, so that there a term with the best value is as cheap as any way.
use mathlib.Core.Path.{◌≡◌, refl, sym, ap, ◌∙◌, subst}
use mathlib.Core.Bool.{Bool, true, false, not}
use mathlib.Core.Option.{none, some}
use Prim.Native.Nat.{ℕ, zero, suc, ◌+◌, ◌≤◌, ◌<◌, min}
use native.Mathlib.Omega.{arith}
use lib.Dec.{T}
use Rattle.fewest.specs.Node.{missed, best_value, cheapest, chosen}
use Rattle.fewest.specs.Tree.{Shape}
use Rattle.fewest.specs.Cost.{cost}
use Rattle.fewest.specs.Row.{Inhabited, Row}
use Rattle.fewest.proofs.Best.{best_within, best_costs_least, best_is_first, none_chosen, best_chosen}
use Rattle.fewest.proofs.LowerBound.{passed_not_missed, not_missed_passes}

-- a test that fails is missed
failed_missed : (test : Bool) → T (not test) → missed test ≡ 1
failed_missed false fails = refl
failed_missed true fails = elim fails [ ]

module _ {top : ℕ} {cost_of : ℕ → ℕ} {s : ℕ} {set : ℕ → Bool} (row : Row top cost_of s set) where
  -- a row may name its set otherwise
  pub same_set : {other : ℕ → Bool} → ((v : ℕ) → v ≤ top → set v ≡ other v) → Row top cost_of s other
  same_set {other} equal = record {
    at_least = λ v within. subst (λ test. s + missed test ≤ cost_of v) (equal v within) (row.at_least v within);
    inside_costs = λ v within inside. row.inside_costs v within (subst T (sym (equal v within)) inside);
    not_empty =
        let some_value = row.not_empty in
        record { value = some_value.value; within = some_value.within; inside = subst T (equal some_value.value some_value.within) some_value.inside };
  }

  -- the best value costs the row's number
  best_costs : cost_of (best_value top cost_of) ≡ s
  best_costs =
      let some_value = row.not_empty in
      omega (
        arith,
        row.at_least (best_value top cost_of) (best_within top cost_of),
        best_costs_least top cost_of some_value.value some_value.within,
        row.inside_costs some_value.value some_value.within some_value.inside,
      )

  -- document 000, theorem 6.2: a subtree needs its row's number, and one more where what comes in is not in the set
  pub row_needs : (v : ℕ) → v ≤ top → cheapest top cost_of v ≡ s + missed (set v)
  unfolding cheapest
  row_needs v within = split (set v) (row.at_least v within) (row.inside_costs v within) best_costs
    where
      split : (test : Bool) → s + missed test ≤ cost_of v → (T test → cost_of v ≤ s) → cost_of (best_value top cost_of) ≡ s
          → min (cost_of v) (suc (cost_of (best_value top cost_of))) ≡ s + missed test
      split true low inside best = omega (arith, inside tt)
      split false low inside best = omega arith

  -- where what comes in is in the set, the walk makes no term
  pub inside_no_term : (v : ℕ) → v ≤ top → T (set v) → chosen top cost_of v ≡ none
  inside_no_term v within inside = none_chosen top cost_of v (omega (arith, best_costs, row.inside_costs v within inside))

  -- the best value is the least of the set
  best_is_least : (least : ℕ) → least ≤ top → T (set least) → ((w : ℕ) → w < least → T (set w) → ⊥) → best_value top cost_of ≡ least
  best_is_least least within inside none_below =
      let low = row.at_least (best_value top cost_of) (best_within top cost_of) in
      let best_inside : T (set (best_value top cost_of)) = not_missed_passes (set (best_value top cost_of)) (omega (arith, best_costs, low)) in
      let not_below : best_value top cost_of < least → ⊥ = λ below. none_below (best_value top cost_of) below best_inside in
      omega (arith, not_below, best_is_first top cost_of least within (omega (arith, best_costs, row.inside_costs least within inside)))

  -- elsewhere the walk makes a term with the least value of the set
  pub outside_least_term : (v : ℕ) → v ≤ top → T (not (set v))
      → (least : ℕ) → least ≤ top → T (set least) → ((w : ℕ) → w < least → T (set w) → ⊥) → chosen top cost_of v ≡ some least
  outside_least_term v within outside least least_within inside none_below =
      best_chosen top cost_of v (omega (arith, best_costs, row.at_least v within, failed_missed (set v) outside))
      ∙ ap some (best_is_least least least_within inside none_below)

module _ (shape : Shape) (accepts : ℕ → ℕ → Bool) (top : ℕ) where
  -- a leaf: number 0, and the values that its slot accepts
  pub leaf_row : (i : ℕ) → Inhabited top (accepts i) → Row top (cost shape accepts top zero i) 0 (accepts i)
  unfolding cost
  leaf_row i some_value = record {
    at_least = λ v within. omega arith;
    inside_costs = λ v within inside. omega (arith, passed_not_missed (accepts i v) inside);
    not_empty = some_value;
  }
