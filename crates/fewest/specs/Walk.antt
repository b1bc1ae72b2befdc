-- The fewest terms, for a synopsis: what it restores, what it keeps, and the walk that makes one. A reader of the promises need not open this file.
-- A synopsis enters by its look-up: the value of the term at each node, or none.
use Rattle.std.specs.Prelude.{◌≡◌, Bool, ℕ, zero, suc, ◌-◌, ◌≤◌, ◌<◌, T}
use Rattle.std.proofs.Math.Option.{Option}
use Rattle.fewest.specs.Node.{placed, chosen}
use Rattle.fewest.specs.Tree.{Shape, ancestor}
use Rattle.fewest.specs.Cost.{cost}

-- the value of the lowest term on the path of `count` nodes from node n upwards; the rest value where there is none
unfoldable pub restored_from : Shape → (ℕ → Option ℕ) → ℕ → ℕ → ℕ → ℕ
restored_from shape term_at rest zero n = rest
restored_from shape term_at rest (suc count) n = placed (term_at n) (restored_from shape term_at rest count (shape.par n))

-- every leaf of the tree of a height accepts what is restored there
pub record Keeps (shape : Shape) (accepts : ℕ → ℕ → Bool) (height rest : ℕ) (term_at : ℕ → Option ℕ) : Type 0 where
  pub each_leaf : (n : ℕ) → ancestor shape height n ≡ 1 → T (accepts n (restored_from shape term_at rest (suc height) n))

-- the same from the root down: every leaf of the subtree at i accepts what is handed down to it, where v comes in at i
unfoldable pub Fits : (shape : Shape) (accepts : ℕ → ℕ → Bool) → (ℕ → Option ℕ) → ℕ → ℕ → ℕ → Type 0
Fits shape accepts term_at zero i v = T (accepts i (placed (term_at i) v))
Fits shape accepts term_at (suc height) i v = (c : ℕ) → c < shape.arity → Fits shape accepts term_at height (shape.kid i c) (placed (term_at i) v)

-- in the subtree at i, where v comes in, the synopsis has the terms that the walk from the root down makes
unfoldable pub Greedy : (shape : Shape) (accepts : ℕ → ℕ → Bool) → ℕ → (ℕ → Option ℕ) → ℕ → ℕ → ℕ → Type 0
Greedy shape accepts top term_at zero i v = term_at i ≡ chosen top (cost shape accepts top zero i) v
Greedy shape accepts top term_at (suc height) i v =
    (term_at i ≡ chosen top (cost shape accepts top (suc height) i) v)
    × ((c : ℕ) → c < shape.arity → Greedy shape accepts top term_at height (shape.kid i c) (placed (term_at i) v))

-- the same for each node by itself: the term at i, so many levels below the root, is what the walk chooses for the value restored above i
pub record Made (shape : Shape) (accepts : ℕ → ℕ → Bool) (top height rest : ℕ) (term_at : ℕ → Option ℕ) : Type 0 where
  pub each_node : (levels i : ℕ) → ancestor shape levels i ≡ 1 → levels ≤ height
      → term_at i ≡ chosen top (cost shape accepts top (height - levels) i) (restored_from shape term_at rest levels (shape.par i))
