-- The fewest terms, for a list of terms: its look-up, which lists are meant, which of two comes first, and which are smallest. A reader of the promises need not open this file.
-- Terms may be of any type that has a node and a value, so that a list of terms need not be copied to be counted.
use Rattle.std.specs.Prelude.{◌≡◌, ◌⊎◌, Bool, cond, List, [], ◌∷◌, ℕ, ◌≤◌, ◌<◌, eqb, length}
use Rattle.std.proofs.Math.Option.{Option, none, some}
use Rattle.fewest.specs.Tree.{Shape, InTree}
use Rattle.fewest.specs.Cost.{fewest}
use Rattle.fewest.specs.Walk.{Keeps}

module _ {Term : Type 0} (node value : Term → ℕ) where
  -- the value of the first term at a node, or none
  unfoldable pub lookup : List Term → ℕ → Option ℕ
  lookup [] i = none
  lookup (term ∷ terms) i = cond (eqb (node term) i) (some (value term)) (lookup terms i)

  -- the nodes ascend strictly from above `last` and are nodes of the tree of a height, and the values are at most `top`
  unfoldable pub Listed : Shape → ℕ → ℕ → ℕ → List Term → Type 0
  Listed shape height top last [] = Unit {0}
  Listed shape height top last (term ∷ terms) =
      (last < node term) × InTree shape height (node term) × (value term ≤ top) × Listed shape height top (node term) terms

  -- of two lists, the first comes before the second or has the same nodes and values: the first difference decides
  unfoldable pub Leads : List Term → List Term → Type 0
  Leads [] others = Unit {0}
  Leads (term ∷ terms) [] = ⊥
  Leads (term ∷ terms) (other ∷ others) =
      (node term < node other) ⊎ ((node term ≡ node other) × ((value term < value other) ⊎ ((value term ≡ value other) × Leads terms others)))

-- a list that keeps, and has just the fewest terms
pub record Smallest {Term : Type 0} (node value : Term → ℕ) (shape : Shape) (accepts : ℕ → ℕ → Bool) (top height rest : ℕ) (terms : List Term) : Type 0 where
  pub keeps : Keeps shape accepts height rest (lookup node value terms)
  pub length_is : length terms ≡ fewest shape accepts top height rest
