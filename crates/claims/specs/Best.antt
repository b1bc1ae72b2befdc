-- A profile in range, and a best synopsis: demand 3, as document 02's F-6 has it. For the auditor. Bands are given as the band that each slot goes by.
-- For a profile without special slots a best synopsis is what demand 3 says word for word: `BestForOneBand`, `one_band_best` and `best_for_one_band` (proofs/OneBand.antt).
use Rattle.std.specs.Prelude.{◌≡◌, List, [], ℕ, ◌≤◌, ◌<◌, ℤ, nat_abs, length}
use Rattle.bands.specs.Bands.{slot_bands}
use Rattle.histogram.specs.declared.Term.{Term}
use Rattle.histogram.specs.Terms.{Valid}
use Rattle.histogram.specs.Errors.{slots_of, setpoint_of, greatest_error, least_margin, Keeps}

-- setpoints and rest value within ±20,000
pub record InRange (profile : List ℤ) (rest : ℤ) : Type 0 where
  pub setpoints_within : (slot : ℕ) → slot < slots_of profile → nat_abs (setpoint_of profile slot) ≤ 20000
  pub rest_within : nat_abs rest ≤ 20000

-- a synopsis of a profile and rest value that keeps its bands: a valid list of terms, every slot's error within the slot's band
pub record KeepingSynopsis (profile : List ℤ) (rest : ℤ) (bands : List ℕ) (terms : List Term) : Type 0 where
  pub valid : Valid (length profile) terms
  pub keeps : Keeps profile rest terms bands

-- a best one: no synopsis that keeps the bands has fewer terms, and none with as many has a greater least margin
pub record Best (profile : List ℤ) (rest : ℤ) (bands : List ℕ) (terms : List Term) : Type 0 where
  pub synopsis : KeepingSynopsis profile rest bands terms
  pub fewest : (other : List Term) → KeepingSynopsis profile rest bands other → length terms ≤ length other
  pub greatest_margin : (other : List Term) → KeepingSynopsis profile rest bands other → length other ≡ length terms
      → least_margin profile rest other bands ≤ least_margin profile rest terms bands

-- one band for all slots of a profile: it has no special slots
abbrev pub one_band : List ℤ → ℕ → List ℕ
one_band profile band = slot_bands (length profile) band []

-- a best synopsis for one band: no synopsis that keeps the band has fewer terms, and none with as many has a smaller greatest error
pub record BestForOneBand (profile : List ℤ) (rest : ℤ) (band : ℕ) (terms : List Term) : Type 0 where
  pub synopsis : KeepingSynopsis profile rest (one_band profile band) terms
  pub fewest : (other : List Term) → KeepingSynopsis profile rest (one_band profile band) other → length terms ≤ length other
  pub least_error : (other : List Term) → KeepingSynopsis profile rest (one_band profile band) other → length other ≡ length terms
      → greatest_error profile rest terms ≤ greatest_error profile rest other
