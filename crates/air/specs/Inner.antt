-- What inner functions ask and promise. A reader of the promises need not open this file.
use Rattle.std.specs.Prelude.{◌≡◌, List, ℕ, ◌≤◌, length, get_or}
use Rattle.air.specs.Flows.{IsTable}

-- the flow of a step by a table that is lent
abbrev pub entry_of : List ℕ → ℕ → ℕ
entry_of flows step = get_or flows step 0

-- a table that is lent: a flow for each of the 401 steps
pub record LentTable (flows : List ℕ) : Type 0 where
  pub each_step : length flows ≡ 401
  pub is_table : IsTable (entry_of flows)

-- with a flow that its last step reaches
pub record Searchable (flows : List ℕ) (flow : ℕ) : Type 0 where
  pub table : LentTable flows
  pub within : flow ≤ 1000
