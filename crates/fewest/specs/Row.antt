-- The fewest terms, by the bottom-up pass: a number and a set of values for each node. A reader of the promises need not open this file.
use Rattle.std.specs.Prelude.{Bool, ℕ, ◌+◌, ◌≤◌, T}
use Rattle.fewest.specs.Node.{missed}

-- a set that has one of the values 0 to `top`
pub record Inhabited (top : ℕ) (set : ℕ → Bool) : Type 0 where
  pub value : ℕ
  pub within : value ≤ top
  pub inside : T (set value)

-- of the values 0 to `top`, those in the set cost s and the others cost more; the set is not empty
pub record Row (top : ℕ) (cost_of : ℕ → ℕ) (s : ℕ) (set : ℕ → Bool) : Type 0 where
  pub at_least : (v : ℕ) → v ≤ top → s + missed (set v) ≤ cost_of v
  pub inside_costs : (v : ℕ) → v ≤ top → T (set v) → cost_of v ≤ s
  pub not_empty : Inhabited top set
