-- The least band: document 01, "Building, checking, least band", and demand 3. For the auditor.
-- What the least band is stands in `claims/specs/LeastBand.antt`.
use Rattle.std.specs.Prelude.{◌≡◌, List, ℕ, ◌<◌, ltb, ℤ, length, Result}
use Rattle.limits.specs.Answers.{◌when◌, ◌then◌}
use Rattle.refusals.specs.declared.Refusal.{Refusal}
use Rattle.refusals.specs.Answers.{refused_with, answered}
use Rattle.claims.specs.LeastBand.{LeastBand}
use Rattle.build.specs.Building.{values_refusal, scratch_short}

-- "Least band: 4, 2, 5, 6"
abbrev pub least_band_refusal : List ℤ → ℤ → ℕ → ℕ → ℕ
least_band_refusal profile rest budget numbers = values_refusal profile rest then 5 when ltb 1023 budget then 6 when scratch_short numbers

-- the answer, and scratch before and after
pub record LeastBandFound (profile : List ℤ) (rest : ℤ) (budget : ℕ) (answer : Result ℕ Refusal) (scratch scratch' : List ℤ) : Type 0 where
  pub refusal_is : refused_with answer ≡ least_band_refusal profile rest budget (length scratch)
  pub least : refused_with answer ≡ 0 → LeastBand profile rest budget (answered 0 answer)
  pub scratch_refused : 0 < refused_with answer → scratch' ≡ scratch
