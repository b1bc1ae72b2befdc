-- Sets of values as lists of windows, for the bottom-up pass of building. A reader of the promises need not open this file.
-- Values are numbers of 0 to 40,000: setpoints lifted by 20,000.
use Rattle.std.specs.Prelude.{Bool, false, cond, ◌&&◌, ◌||◌, List, [], ◌∷◌, ◌++◌, ℕ, suc, ◌≤◌, min, max, leb, ltb}

-- the values from `low` to `high`, both included
pub record Window : Type 0 where
  pub low : ℕ
  pub high : ℕ

-- whether a value is in a window
abbrev pub inside : Window → ℕ → Bool
inside window value = leb window.low value && leb value window.high

-- whether a value is in one of the windows
unfoldable pub covers : List Window → ℕ → Bool
covers [] value = false
covers (window ∷ windows) value = inside window value || covers windows value

-- windows that hold at least one value each, lie at `from` or above, up to 40,000, and ascend without meeting
unfoldable pub Sorted : ℕ → List Window → Type 0
Sorted from [] = Unit {0}
Sorted from (window ∷ windows) = (from ≤ window.low) × (window.low ≤ window.high) × (window.high ≤ 40000) × Sorted (suc window.high) windows

-- the window between two ends, or none where they cross
abbrev pub between : ℕ → ℕ → List Window
between low high = cond (leb low high) (record { low = low; high = high } ∷ []) []

-- what is in both of two sorted lists: the first windows meet, and the one that ends first is done with
unfoldable pub meet : List Window → List Window → List Window
meet [] right = []
meet (a ∷ left) [] = []
meet (a ∷ left) (b ∷ right) = between (max a.low b.low) (min a.high b.high) ++ cond (ltb a.high b.high) (meet left (b ∷ right)) (meet (a ∷ left) right)

-- what is in either of two sorted lists that do not meet: the lower window comes first
unfoldable pub join : List Window → List Window → List Window
join [] right = right
join (a ∷ left) [] = a ∷ left
join (a ∷ left) (b ∷ right) = cond (ltb b.low a.low) (b ∷ join (a ∷ left) right) (a ∷ join left (b ∷ right))
