-- Of two numbers, the first is below the second or it is not: std's `cases_lt`, under the name that the crates above cite.
use Rattle.std.proofs.Common.{◌⊎◌, ℕ, ◌≤◌, ◌<◌}
use Rattle.std.proofs.lemmas.Bool.{cases_lt}

pub below_or_not : (m n : ℕ) → (m < n) ⊎ (n ≤ m)
below_or_not = cases_lt
