-- What inner functions ask and promise. A reader of the promises need not open this file.
use Rattle.std.specs.Prelude.{◌≡◌, not, cond, List, ℕ, ◌-◌, ◌≤◌, ◌<◌, T, leb, ltb, ℤ, pos, ◌-ℤ◌, nat_abs, length, get_or, Result, is_ok}
use Rattle.limits.specs.Limits.{any_beyond}
use Rattle.limits.specs.Lowest.{lowest}
use Rattle.histogram.specs.Terms.{paired, valid}
use Rattle.histogram.specs.Errors.{setpoint_of, slot_band, greatest, least, every}
use Rattle.verdict.specs.declared.Kept.{Kept}
use Rattle.verdict.specs.declared.Beyond.{Beyond}
use Rattle.verdict.specs.Verdict.{error_of, margin_of, slot_of}

-- a profile of a slot or more with their bands, and a synopsis that can be judged
pub record Judgeable (profile : List ℤ) (bands : List ℕ) (rest : ℤ) (nodes : List ℕ) (values : List ℤ) : Type 0 where
  pub same_length : length nodes ≡ length values
  pub some_slot : 1 ≤ length profile
  pub few_slots : length profile ≤ 512
  pub each_band : length bands ≡ length profile
  pub bands_within : (slot : ℕ) → slot_band bands slot ≤ 40000
  pub rest_within : nat_abs rest ≤ 20000
  pub terms_valid : T (valid (length profile) (paired nodes values))
  pub none_beyond : T (not (any_beyond profile))

-- the difference of a setpoint and what stands in its slot
abbrev pub difference : List ℤ → List ℤ → ℕ → ℕ
difference profile restored slot = nat_abs (setpoint_of profile slot -ℤ get_or restored slot (pos 0))

-- setpoints of a slot or more, with as many restored values and bands
pub record Comparable (profile restored : List ℤ) (bands : List ℕ) : Type 0 where
  pub same_length : length restored ≡ length profile
  pub some_slot : 1 ≤ length profile
  pub few_slots : length profile ≤ 512
  pub each_band : length bands ≡ length profile
  pub bands_within : (slot : ℕ) → slot_band bands slot ≤ 40000

-- a slot that has a setpoint, and a value restored
pub record InSlot (profile restored : List ℤ) (slot : ℕ) : Type 0 where
  pub same_length : length restored ≡ length profile
  pub inside : slot < length profile

-- whether every difference is within its slot's band, with the greatest and the least that a band leaves if so, and else the lowest slot beyond its band
pub record Compared (profile restored : List ℤ) (bands : List ℕ) (verdict : Result Kept Beyond) : Type 0 where
  pub kept_is : is_ok verdict ≡ every (λ place. leb (difference profile restored place) (slot_band bands place)) (length profile)
  pub error_is : error_of verdict ≡ cond (is_ok verdict) (greatest (difference profile restored) (length profile)) 0
  pub margin_is : margin_of verdict ≡ cond (is_ok verdict) (least (λ place. slot_band bands place - difference profile restored place) (length profile)) 0
  pub slot_is : slot_of verdict ≡ cond (is_ok verdict) 0 (lowest (λ place. ltb (slot_band bands place) (difference profile restored place)) (length profile))
