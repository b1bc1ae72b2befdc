-- The bottom-up pass of document 000, section 6.1: a node's answer from the answers of its two children. A reader of the promises need not open this file.
-- `proofs/Rows.antt` shows that an answer is what the theory of fewest terms says of its node: `answer_row`.
use Rattle.std.specs.Prelude.{List, [], ◌∷◌, ℕ, zero, suc, ◌+◌, ◌-◌, ◌^◌, min, ℤ, get_or, take, drop}
use Rattle.fewest.specs.Node.{missed}
use Rattle.claims.specs.Inner.{lifted}
use Rattle.windows.specs.Windows.{Window, covers, meet, join}

-- how many terms a subtree needs strictly below its top for the best values coming in, and those values
pub record Answer : Type 0 where
  pub number : ℕ
  pub windows : List Window

-- the values within a band of a slot's setpoint
abbrev pub slot_window : ℕ → ℤ → Window
slot_window band setpoint = record { low = lifted setpoint - band; high = min (lifted setpoint + band) 40000 }

-- how slots enter the bottom-up pass: by their windows, one after the other, each by the slot's own band or the common one
abbrev pub slot_windows : List ℕ → List ℤ → List Window
slot_windows [] setpoints = []
slot_windows (band ∷ bands) [] = []
slot_windows (band ∷ bands) (setpoint ∷ setpoints) = slot_window band setpoint ∷ slot_windows bands setpoints

-- every value: the window of a filler leaf
abbrev pub every_value : Window
every_value = record { low = 0; high = 40000 }

-- what is in both sets where they meet; else what is in either, at the price of one term more
abbrev pub combined_by : List Window → Answer → Answer → Answer
combined_by [] left right = record { number = left.number + right.number + 1; windows = join left.windows right.windows }
combined_by (window ∷ windows) left right = record { number = left.number + right.number; windows = window ∷ windows }

abbrev pub combined : Answer → Answer → Answer
combined left right = combined_by (meet left.windows right.windows) left right

-- the answer for a subtree of a height over the windows of its slots; the leaves past them are filler
unfoldable pub answer : ℕ → List Window → Answer
answer zero leaves = record { number = 0; windows = get_or leaves 0 every_value ∷ [] }
answer (suc height) leaves = combined (answer height (take (2 ^ height) leaves)) (answer height (drop (2 ^ height) leaves))

-- the terms that a subtree needs with a value coming in: its number, and one more where the value is not among its best ones
abbrev pub needed : Answer → ℕ → ℕ
needed answer value = answer.number + missed (covers answer.windows value)

-- the terms that a tree over setpoints needs for their bands, where a value comes in at the root
abbrev pub terms_for : (bands : List ℕ) → (height : ℕ) → List ℤ → (value : ℕ) → ℕ
terms_for bands height setpoints value = needed (answer height (slot_windows bands setpoints)) value
