-- A subtree that fits with just the cheapest cost pays the cheapest at its root, and so does each subtree below it: what costs least as a whole costs least at every node.
-- Each part costs at least its cheapest (`LowerBound.antt`), so where the sum is no greater no part is.
use mathlib.Core.Path.{◌≡◌, sym, subst}
use mathlib.Core.Bool.{Bool}
use mathlib.Core.Option.{Option}
use Prim.Native.Nat.{ℕ, zero, suc, ◌+◌, ◌≤◌, ◌<◌}
use native.Mathlib.Omega.{arith}
use Rattle.fewest.specs.Node.{placed, term_count, Within, cheapest}
use Rattle.fewest.specs.Tree.{Shape, tree_sum, total, ancestor}
use Rattle.fewest.specs.Cost.{cost}
use Rattle.fewest.specs.Walk.{restored_from, Fits}
use Rattle.fewest.proofs.Total.{total_at_most, total_tight}
use Rattle.fewest.proofs.Best.{pays_cheapest}
use Rattle.fewest.proofs.LowerBound.{passed_not_missed, no_subtree_below_cost}
use Rattle.fewest.proofs.Reached.{Reaches}
use Rattle.fewest.proofs.Occurrence.{node_under_root}

-- a node with a term or none pays just the cheapest, where v comes in
abbrev pub PaysCheapest : ℕ → (ℕ → ℕ) → ℕ → Option ℕ → Type 0
PaysCheapest top cost_of v term = cost_of (placed term v) + term_count term ≤ cheapest top cost_of v

module _ (shape : Shape) (accepts : ℕ → ℕ → Bool) (top : ℕ) (term_at : ℕ → Option ℕ) (within : (n : ℕ) → Within top (term_at n)) where
  -- the terms of the subtree at a node
  abbrev terms_below : ℕ → ℕ → ℕ
  terms_below = tree_sum shape (λ n. term_count (term_at n))

  -- the cheapest for the subtree at a node, where v comes in
  abbrev cheapest_below : ℕ → ℕ → ℕ → ℕ
  cheapest_below height i v = cheapest top (cost shape accepts top height i) v

  module _ (height i v : ℕ) (reaches : Reaches shape accepts top term_at (suc height) i v) where
    -- what stands at the node
    abbrev here : ℕ
    here = placed (term_at i) v

    -- each child has at least the terms of its cheapest
    child_pays : (c : ℕ) → c < shape.arity → cheapest_below height (shape.kid i c) here ≤ terms_below height (shape.kid i c)
    unfolding Fits
    child_pays c below = no_subtree_below_cost shape accepts top term_at within height (shape.kid i c) here (reaches.fits c below)

    children_pay : total shape.arity (λ c. cheapest_below height (shape.kid i c) here) ≤ total shape.arity (λ c. terms_below height (shape.kid i c))
    children_pay = total_at_most shape.arity (λ c. cheapest_below height (shape.kid i c) here) (λ c. terms_below height (shape.kid i c)) child_pays

    -- and no more
    child_reaches : (c : ℕ) → c < shape.arity → Reaches shape accepts top term_at height (shape.kid i c) here
    unfolding Fits tree_sum cost
    child_reaches c below = record {
      fits = reaches.fits c below;
      terms_are = omega (
        arith,
        child_pays c below,
        total_tight shape.arity (λ d. cheapest_below height (shape.kid i d) here) (λ d. terms_below height (shape.kid i d)) child_pays
            (omega (arith, reaches.terms_are, pays_cheapest top (cost shape accepts top (suc height) i) v (term_at i) (within i))) c below,
      );
    }

  -- the node itself pays the cheapest
  node_pays : (height i v : ℕ) → Reaches shape accepts top term_at height i v → PaysCheapest top (cost shape accepts top height i) v (term_at i)
  unfolding Fits tree_sum cost
  node_pays zero i v reaches = omega (arith, reaches.terms_are, passed_not_missed (accepts i (placed (term_at i) v)) reaches.fits)
  node_pays (suc height) i v reaches = omega (arith, reaches.terms_are, children_pay height i v reaches)

  -- so from the root down each subtree fits with just the cheapest cost, where what is restored above it comes in
  subtree_reaches : (height rest : ℕ) → Reaches shape accepts top term_at height 1 rest → (levels below i : ℕ) → levels + below ≡ height → ancestor shape levels i ≡ 1
      → Reaches shape accepts top term_at below i (restored_from shape term_at rest levels (shape.par i))
  unfolding restored_from ancestor
  subtree_reaches height rest reaches zero below i heights under = let all : below ≡ height = omega arith in rw (under, all) reaches
  subtree_reaches height rest reaches (suc levels) below i heights under =
      subst (λ n. Reaches shape accepts top term_at below n (restored_from shape term_at rest (suc levels) (shape.par i)))
      (sym (shape.kid_of_par i (node_under_root shape levels (shape.par i) under)))
      (child_reaches below (shape.par i) (restored_from shape term_at rest levels (shape.par (shape.par i)))
      (subtree_reaches height rest reaches levels (suc below) (shape.par i) (omega arith) under) (shape.place i) (shape.place_below i))

  -- and each node pays the cheapest
  pub each_pays : (height rest : ℕ) → Reaches shape accepts top term_at height 1 rest → (levels below i : ℕ) → levels + below ≡ height → ancestor shape levels i ≡ 1
      → PaysCheapest top (cost shape accepts top below i) (restored_from shape term_at rest levels (shape.par i)) (term_at i)
  each_pays height rest reaches levels below i heights under = node_pays below i _ (subtree_reaches height rest reaches levels below i heights under)
