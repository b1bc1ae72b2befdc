-- The bound is reached, document 000, section 6.1: by induction on the height, a subtree with the terms of the walk fits, and has just as many as the cost says.
use mathlib.Core.Path.{◌≡◌}
use mathlib.Core.Bool.{Bool}
use mathlib.Core.Option.{Option}
use Prim.Native.Nat.{ℕ, zero, suc, ◌+◌}
use native.Mathlib.Omega.{arith}
use lib.Dec.{T}
use Rattle.fewest.specs.Node.{placed, term_count, cheapest, chosen}
use Rattle.fewest.specs.Tree.{Shape, tree_sum}
use Rattle.fewest.specs.Cost.{cost}
use Rattle.fewest.specs.Walk.{Fits, Greedy}
use Rattle.fewest.specs.Row.{Inhabited}
use Rattle.fewest.proofs.Total.{total_same}
use Rattle.fewest.proofs.Best.{chosen_pays_cheapest, chosen_costs_least}
use Rattle.fewest.proofs.LowerBound.{passed_not_missed, not_missed_passes}

-- a subtree that fits with just the cheapest cost
pub record Reaches (shape : Shape) (accepts : ℕ → ℕ → Bool) (top : ℕ) (term_at : ℕ → Option ℕ) (height i v : ℕ) : Type 0 where
  pub fits : Fits shape accepts term_at height i v
  pub terms_are : tree_sum shape (λ n. term_count (term_at n)) height i ≡ cheapest top (cost shape accepts top height i) v

module _ (shape : Shape) (accepts : ℕ → ℕ → Bool) (top : ℕ) (term_at : ℕ → Option ℕ) where
  -- the walk's term at a node, or none, pays just the cheapest
  node_pays_cheapest : (height i v : ℕ) → term_at i ≡ chosen top (cost shape accepts top height i) v
      → cost shape accepts top height i (placed (term_at i) v) + term_count (term_at i) ≡ cheapest top (cost shape accepts top height i) v
  node_pays_cheapest height i v is-chosen = rw is-chosen (chosen_pays_cheapest top (cost shape accepts top height i) v)

  -- a leaf accepts what the walk leaves there, since it accepts some value
  leaf_accepts : (i v : ℕ) → Inhabited top (accepts i) → term_at i ≡ chosen top (cost shape accepts top zero i) v → T (accepts i (placed (term_at i) v))
  unfolding cost
  leaf_accepts i v some_value is-chosen =
      not_missed_passes (accepts i (placed (term_at i) v))
      (rw is-chosen
      (omega (
        arith,
        chosen_costs_least top (cost shape accepts top zero i) v some_value.value some_value.within,
        passed_not_missed (accepts i some_value.value) some_value.inside,
      )))

  -- where v comes in at node i and the subtree there has the terms of the walk, it fits with just the cheapest cost
  pub walk_reaches_cost : ((n : ℕ) → Inhabited top (accepts n)) → (height i v : ℕ) → Greedy shape accepts top term_at height i v
      → Reaches shape accepts top term_at height i v
  unfolding Greedy Fits tree_sum cost
  walk_reaches_cost some_value zero i v walked =
      let accepted = leaf_accepts i v (some_value i) walked in
      record { fits = accepted; terms_are = omega (arith, node_pays_cheapest zero i v walked, passed_not_missed (accepts i (placed (term_at i) v)) accepted) }
  walk_reaches_cost some_value (suc height) i v walked = record {
    fits = λ c below. (walk_reaches_cost some_value height (shape.kid i c) (placed (term_at i) v) (walked.1 c below)).fits;
    terms_are = omega (
      arith,
      node_pays_cheapest (suc height) i v walked.0,
      total_same shape.arity (λ c. tree_sum shape (λ n. term_count (term_at n)) height (shape.kid i c))
          (λ c. cheapest top (cost shape accepts top height (shape.kid i c)) (placed (term_at i) v))
          (λ c below. (walk_reaches_cost some_value height (shape.kid i c) (placed (term_at i) v) (walked.1 c below)).terms_are),
    );
  }
