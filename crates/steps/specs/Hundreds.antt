-- What inner functions promise. A reader of the promises need not open this file.
use Rattle.std.specs.Prelude.{◌≡◌, List, ℕ, ◌*◌, ◌/◌, ◌<◌, length, get_or}

-- a flow of 250 more at each hundredth step
pub record Hundreds (flows : List ℕ) : Type 0 where
  pub each_step : length flows ≡ 401
  pub each_flow : (step : ℕ) → step < 401 → get_or flows step 0 ≡ step / 100 * 250
