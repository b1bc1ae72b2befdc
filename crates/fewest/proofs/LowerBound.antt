-- The lower bound, document 000, section 6.1: by induction on the height, any synopsis whose subtree fits has there at least the terms that the cost says.
use mathlib.Core.Path.{◌≡◌, refl}
use mathlib.Core.Bool.{Bool, true, false}
use mathlib.Core.Option.{Option}
use Prim.Native.Nat.{ℕ, zero, suc, ◌≤◌}
use native.Mathlib.Omega.{arith}
use lib.Dec.{T}
use Rattle.fewest.specs.Node.{placed, term_count, Within, missed, cheapest}
use Rattle.fewest.specs.Tree.{Shape, tree_sum}
use Rattle.fewest.specs.Cost.{cost}
use Rattle.fewest.specs.Walk.{Fits}
use Rattle.fewest.proofs.Total.{total_at_most}
use Rattle.fewest.proofs.Best.{pays_cheapest}

-- a test that passes is not missed
pub passed_not_missed : (test : Bool) → T test → missed test ≡ 0
passed_not_missed true passes = refl
passed_not_missed false passes = elim passes [ ]

-- and one that is not missed passes
pub not_missed_passes : (test : Bool) → missed test ≤ 0 → T test
not_missed_passes true none-missed = tt
not_missed_passes false none-missed = omega arith

module _ (shape : Shape) (accepts : ℕ → ℕ → Bool) (top : ℕ) (term_at : ℕ → Option ℕ) where
  -- where v comes in at node i and the subtree there fits, its terms are no fewer than its cheapest cost
  pub no_subtree_below_cost : ((n : ℕ) → Within top (term_at n)) → (height i v : ℕ) → Fits shape accepts term_at height i v
      → cheapest top (cost shape accepts top height i) v ≤ tree_sum shape (λ n. term_count (term_at n)) height i
  unfolding Fits tree_sum cost
  no_subtree_below_cost within zero i v fits =
      omega (arith, pays_cheapest top (cost shape accepts top zero i) v (term_at i) (within i), passed_not_missed (accepts i (placed (term_at i) v)) fits)
  no_subtree_below_cost within (suc height) i v fits =
      omega (
        arith,
        pays_cheapest top (cost shape accepts top (suc height) i) v (term_at i) (within i),
        total_at_most shape.arity (λ c. cheapest top (cost shape accepts top height (shape.kid i c)) (placed (term_at i) v))
            (λ c. tree_sum shape (λ n. term_count (term_at n)) height (shape.kid i c))
            (λ c below. no_subtree_below_cost within height (shape.kid i c) (placed (term_at i) v) (fits c below)),
      )
