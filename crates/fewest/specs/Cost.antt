-- The fewest terms, as a cost by height and node: document 000, section 6.1. A reader of the promises need not open this file.
use Rattle.std.specs.Prelude.{Bool, ℕ, zero, suc}
use Rattle.fewest.specs.Node.{missed, cheapest}
use Rattle.fewest.specs.Tree.{Shape, total}

-- `accepts n v` is the test of the slot at leaf n: whether it accepts the value v
module _ (shape : Shape) (accepts : ℕ → ℕ → Bool) (top : ℕ) where
  -- the terms that the subtree of a height at node i needs strictly below i, where v stands at i; at a leaf, 1 where v is not accepted
  -- (so `cheapest top (cost height i) v` is document 000's S(i, v): the terms at i or below it, where v comes in)
  unfoldable pub cost : ℕ → ℕ → ℕ → ℕ
  cost zero i v = missed (accepts i v)
  cost (suc height) i v = total shape.arity (λ c. cheapest top (cost height (shape.kid i c)) v)

  -- the fewest terms for the whole tree of a height over a rest value
  abbrev pub fewest : ℕ → ℕ → ℕ
  fewest height rest = cheapest top (cost height 1) rest
