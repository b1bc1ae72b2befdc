-- What accepts more needs no more: where each slot accepts all that it accepted before, the fewest terms do not rise. By induction on the height.
use mathlib.Core.Bool.{Bool, true, false}
use Prim.Native.Nat.{ℕ, zero, suc, ◌≤◌}
use native.Mathlib.Omega.{arith}
use lib.Dec.{T}
use Rattle.fewest.specs.Node.{missed, best_value, cheapest}
use Rattle.fewest.specs.Tree.{Shape}
use Rattle.fewest.specs.Cost.{cost, fewest}
use Rattle.fewest.proofs.Total.{total_at_most}
use Rattle.fewest.proofs.Best.{best_within, best_costs_least}

-- where every value costs no more, the cheapest is no more
pub cheaper_cheapest : (top : ℕ) (cost_of wider : ℕ → ℕ) → ((v : ℕ) → wider v ≤ cost_of v) → (v : ℕ) → cheapest top wider v ≤ cheapest top cost_of v
unfolding cheapest
cheaper_cheapest top cost_of wider each v =
    omega (arith, each v, each (best_value top cost_of), best_costs_least top wider (best_value top cost_of) (best_within top cost_of))

-- a test that passes where another does is missed no more often
missed_at_most : (test wider : Bool) → (T test → T wider) → missed wider ≤ missed test
missed_at_most true true passes = omega arith
missed_at_most true false passes = absurd (passes tt)
missed_at_most false true passes = omega arith
missed_at_most false false passes = omega arith

module _ (shape : Shape) (accepts wider : ℕ → ℕ → Bool) (top : ℕ) (each : (n v : ℕ) → T (accepts n v) → T (wider n v)) where
  -- no value costs a subtree more
  wider_costs : (height i v : ℕ) → cost shape wider top height i v ≤ cost shape accepts top height i v
  unfolding cost
  wider_costs zero i v = missed_at_most (accepts i v) (wider i v) (each i v)
  wider_costs (suc height) i v =
      total_at_most shape.arity (λ c. cheapest top (cost shape wider top height (shape.kid i c)) v) (λ c. cheapest top (cost shape accepts top height (shape.kid i c)) v)
      (λ c below. cheaper_cheapest top (cost shape accepts top height (shape.kid i c)) (cost shape wider top height (shape.kid i c)) (wider_costs height (shape.kid i c)) v)

  -- the fewest terms do not rise
  pub wider_needs_no_more : (height rest : ℕ) → fewest shape wider top height rest ≤ fewest shape accepts top height rest
  wider_needs_no_more height rest = cheaper_cheapest top (cost shape accepts top height 1) (cost shape wider top height 1) (wider_costs height 1) rest
