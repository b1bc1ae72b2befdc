-- The least band for a number of terms: demand 3. For the auditor. F-6: "there a band is still one for all slots".
use Rattle.std.specs.Prelude.{List, ℕ, ◌≤◌, ℤ, length}
use Rattle.histogram.specs.declared.Term.{Term}
use Rattle.claims.specs.Best.{KeepingSynopsis, one_band}

-- some synopsis of at most `budget` terms keeps a band
pub record CanKeep (profile : List ℤ) (rest : ℤ) (budget band : ℕ) : Type 0 where
  pub terms : List Term
  pub synopsis : KeepingSynopsis profile rest (one_band profile band) terms
  pub within_budget : length terms ≤ budget

-- the least band for a budget: a band can be kept exactly where it is at least this number
pub record LeastBand (profile : List ℤ) (rest : ℤ) (budget least : ℕ) : Type 0 where
  pub enough : (band : ℕ) → least ≤ band → CanKeep profile rest budget band
  pub needed : (band : ℕ) → CanKeep profile rest budget band → least ≤ band
