-- The walk, node by node: where the term at each node is what the walk chooses for the value restored above it, the terms are those of the walk.
-- By induction from the root down: the value restored above a child is what stands at the node.
use mathlib.Core.Path.{◌≡◌, refl, ap, ◌∙◌, subst}
use mathlib.Core.Bool.{Bool}
use mathlib.Core.Option.{Option}
use Prim.Native.Nat.{ℕ, zero, suc, ◌+◌, ◌≤◌}
use native.Mathlib.Omega.{arith}
use Rattle.fewest.specs.Node.{placed, chosen}
use Rattle.fewest.specs.Tree.{Shape, ancestor}
use Rattle.fewest.specs.Cost.{cost}
use Rattle.fewest.specs.Walk.{restored_from, Greedy, Made}

module _ (shape : Shape) (accepts : ℕ → ℕ → Bool) (top height rest : ℕ) (term_at : ℕ → Option ℕ) (made : Made shape accepts top height rest term_at) where
  -- the same with the height below the node, which the walk counts down
  term_is_chosen : (levels below i : ℕ) → levels + below ≡ height → ancestor shape levels i ≡ 1
      → term_at i ≡ chosen top (cost shape accepts top below i) (restored_from shape term_at rest levels (shape.par i))
  term_is_chosen levels below i heights under =
      subst (λ x. term_at i ≡ chosen top (cost shape accepts top x i) (restored_from shape term_at rest levels (shape.par i)))
      (omega arith) (made.each_node levels i under (omega arith))

  -- the subtree at a node is that of the walk where what is restored above the node comes in
  subtree_walked : (levels below i : ℕ) → levels + below ≡ height → 1 ≤ i → ancestor shape levels i ≡ 1
      → Greedy shape accepts top term_at below i (restored_from shape term_at rest levels (shape.par i))
  unfolding Greedy restored_from ancestor
  subtree_walked levels zero i heights node under = term_is_chosen levels zero i heights under
  subtree_walked levels (suc below) i heights node under = (
    term_is_chosen levels (suc below) i heights under,
    λ c inside. subst (λ x. Greedy shape accepts top term_at below (shape.kid i c) (placed (term_at x) (restored_from shape term_at rest levels (shape.par x))))
        (shape.par_of_kid i c node inside)
        (subtree_walked (suc levels) below (shape.kid i c) (omega arith) (shape.kid_is_node i c node inside) (ap (ancestor shape levels) (shape.par_of_kid i c node inside) ∙ under)),
  )

  -- what is made node by node is the walk from the root
  pub made_is_walk : Greedy shape accepts top term_at height 1 rest
  unfolding restored_from ancestor
  made_is_walk = subtree_walked 0 height 1 (omega arith) (omega arith) refl
