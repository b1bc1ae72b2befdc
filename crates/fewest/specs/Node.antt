-- The fewest terms, at one node: what stands there, how many terms that takes, and the value chosen. A reader of the promises need not open this file.
-- A value in this theory is a natural number, 0 to `top`: a setpoint, rest value or term's value lifted by 20,000, where `top` is 40,000.
use Rattle.std.specs.Prelude.{Bool, true, false, cond, ℕ, zero, suc, ◌≤◌, min, leb}
use Rattle.std.proofs.Math.Option.{Option, none, some}

-- what stands at a node with a term or none, where `above` comes in
abbrev pub placed : Option ℕ → ℕ → ℕ
placed none above = above
placed (some value) above = value

-- how many terms a node with a term or none has
abbrev pub term_count : Option ℕ → ℕ
term_count none = 0
term_count (some value) = 1

-- a term's value is at most `top`
abbrev pub Within : ℕ → Option ℕ → Type 0
Within top none = Unit {0}
Within top (some value) = value ≤ top

-- 1 where a test is missed, 0 where it is passed
abbrev pub missed : Bool → ℕ
missed true = 0
missed false = 1

-- the least of the values 0 to `top` whose cost is least
unfoldable pub best_value : ℕ → (ℕ → ℕ) → ℕ
best_value zero cost_of = 0
best_value (suc top) cost_of = let before = best_value top cost_of in cond (leb (cost_of before) (cost_of (suc top))) before (suc top)

-- the cheaper of two ways: to hand on what comes in, or to pay one term and place the best value
unfoldable pub cheapest : ℕ → (ℕ → ℕ) → ℕ → ℕ
cheapest top cost_of above = min (cost_of above) (suc (cost_of (best_value top cost_of)))

-- the way the walk takes: no term where what comes in costs no more than the best value, else a term with the best value
unfoldable pub chosen : ℕ → (ℕ → ℕ) → ℕ → Option ℕ
chosen top cost_of above = cond (leb (cost_of above) (cost_of (best_value top cost_of))) none (some (best_value top cost_of))
