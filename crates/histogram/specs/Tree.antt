-- The tree over the slots: document 01, "The setpoint in a slot", its first paragraph, with document 02's F-4. For the auditor.
-- `proofs/Powers.antt` shows beside each definition that it is what its words say: `height_reaches`, `height_least`, `level_rule`, `level_only`.
use Rattle.std.specs.Prelude.{cond, ℕ, zero, suc, ◌^◌, ◌≤◌, ◌<◌, leb, ltb}

-- the least h with n ≤ 2 ^ h
unfoldable pub height : ℕ → ℕ
height zero = 0
height (suc n) = cond (leb (suc n) (2 ^ height n)) (height n) (suc (height n))

-- "Let m be the smallest power of two that is n or more"
abbrev pub padded : ℕ → ℕ
padded n = 2 ^ height n

-- "The level of node i is the number e with 2^e ≤ i < 2^(e+1)"
pub record IsLevel (node e : ℕ) : Type 0 where
  pub reached : 2 ^ e ≤ node
  pub next_not : node < 2 ^ suc e

-- that number, and 0 for the number 0, which is no node
unfoldable pub level_of : ℕ → ℕ
level_of zero = 0
level_of (suc i) = cond (leb (2 ^ suc (level_of i)) (suc i)) (suc (level_of i)) (level_of i)

-- F-4, "Node 0 and numbers above 1,023 still give 0": the level that a number is answered with
abbrev pub level_answer : ℕ → ℕ
level_answer node = cond (ltb 1023 node) 0 (level_of node)
