-- What inner functions ask and promise of two single windows and the node above them, which is solved with no general merging. A reader of the promises need not open this file.
-- Above two leaves the node's answer stands at places 0 to 5 of the stretch, the leaves' answers at 6 to 9 and at 10 to 13.
use Rattle.std.specs.Prelude.{◌≡◌, List, [], ◌∷◌, ℕ, ◌+◌, ◌≤◌, ◌<◌, min, max, ℤ}
use Rattle.windows.specs.Windows.{Window}
use Rattle.windows.specs.Scratch.{at}
use Rattle.subtree.specs.Answer.{Answer, slot_window}
use Rattle.subtree.specs.Stretch.{answer_at, Solved, above}

-- the ends of a slot's window
pub record SlotEnds (band : ℕ) (setpoint : ℤ) (low high : ℕ) : Type 0 where
  pub low_is : low ≡ (slot_window band setpoint).low
  pub high_is : high ≡ (slot_window band setpoint).high
  pub low_small : low ≤ 40000

-- the list of one window, by its ends
abbrev pub one_window : ℕ → ℕ → List Window
one_window low high = record { low = low; high = high } ∷ []

-- an answer of one window
abbrev pub single : ℕ → ℕ → ℕ → Answer
single number low high = record { number = number; windows = one_window low high }

-- an answer of one window, written at a place
pub record SingleAt (place number low high : ℕ) (before after : List ℤ) : Type 0 where
  pub answer_is : answer_at (at after) place ≡ single number low high
  pub before_same : (other : ℕ) → other < place → at after other ≡ at before other
  pub behind_same : (other : ℕ) → place + 4 ≤ other → at after other ≡ at before other

-- an answer of two windows, written in front
pub record DoubleWritten (number firstLow firstHigh secondLow secondHigh : ℕ) (before after : List ℤ) : Type 0 where
  pub answer_is :
      answer_at (at after) 0 ≡ record { number = number; windows = record { low = firstLow; high = firstHigh } ∷ record { low = secondLow; high = secondHigh } ∷ [] }
  pub behind_same : (other : ℕ) → 6 ≤ other → at after other ≡ at before other

-- the answer of the node above two windows, written in front
pub record SinglesCombined (numbers leftLow leftHigh rightLow rightHigh : ℕ) (before after : List ℤ) : Type 0 where
  pub answer_is : answer_at (at after) 0 ≡ above numbers (one_window leftLow leftHigh) (one_window rightLow rightHigh)
  pub behind_same : (other : ℕ) → 6 ≤ other → at after other ≡ at before other

-- the answers of two leaves whose windows do not meet, at their places
pub record LeavesWritten (leftLow leftHigh rightLow rightHigh : ℕ) (after : List ℤ) : Type 0 where
  pub left_is : min leftHigh rightHigh < max leftLow rightLow → answer_at (at after) 6 ≡ single 0 leftLow leftHigh
  pub right_is : min leftHigh rightHigh < max leftLow rightLow → answer_at (at after) 10 ≡ single 0 rightLow rightHigh

-- the answers of two leaves and of the node above them
pub record PairSolved (left right : Window) (scratch : List ℤ) : Type 0 where
  pub all_solved : Solved 1 (left ∷ right ∷ []) (at scratch)
