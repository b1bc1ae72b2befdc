-- The shape of every answer: a refusal's number, 0 for success, and what a call leaves in lent memory.
-- For the auditor: every contract of the library is written with these.
use Rattle.std.specs.Prelude.{Bool, true, false, List, ◌++◌, ℕ, zero, suc, length, drop}

-- document 01, "What the panel turns away": a row's number in its row's case only
abbrev pub ◌when◌ : ℕ → Bool → ℕ
number when true = number
number when false = 0

-- "Order": the first refusal counts, and 0 is none
abbrev pub ◌then◌ : ℕ → ℕ → ℕ
zero then later = later
suc earlier then later = suc earlier

infixr 20 ◌then◌
infix 30 ◌when◌
-- "Every refusal returns its number with 0 for all other results": a result by the refusal returned with it
abbrev pub granted {ℓ} : {A : Type ℓ} → ℕ → A → A → A
granted zero result nothing = result
granted (suc refusal) result nothing = nothing

-- what was written, over the front of what was there
abbrev pub laid {ℓ} : {A : Type ℓ} → List A → List A → List A
laid written before = written ++ drop (length written) before
