-- What follows where building or the least band is not refused.
use mathlib.Core.Path.{◌≡◌, sym, ap, subst, ◌∙◌}
use mathlib.Core.Bool.{Bool, false, not, ◌||◌}
use mathlib.Core.List.{List}
use Prim.Native.Nat.{ℕ, ◌≤◌}
use native.Mathlib.Omega.{arith}
use lib.Dec.{T, ltb}
use lib.IntN.{ℤ, nat_abs}
use lib.ListN.{length}
use borrow.Author.Tests.{ltb-false, not-false, le-ltb, ne_eqb}
use Rattle.limits.specs.Limits.{beyond, outside_band, outside_slots, any_beyond}
use Rattle.limits.proofs.Beyond.{within_all, none_beyond_range, band_accepted}
use Rattle.limits.proofs.Refusals.{passed, passed_last, none_of_two, SlotsWithin, slots_within}
use Rattle.limits.proofs.Tests.{neither_holds}
use Rattle.limits.specs.Answers.{◌when◌, ◌then◌}
use Rattle.bands.specs.declared.SpecialSlot.{SpecialSlot}
use Rattle.bands.specs.Bands.{special_slots, right_specials, slot_bands}
use Rattle.bands.proofs.Bands.{length_slot_bands, bands_within, specials_of_bands}
use Rattle.bands.proofs.Lent.{length_specials}
use Rattle.histogram.specs.Tree.{padded}
use Rattle.claims.specs.Best.{InRange}
use Rattle.claims.proofs.Range.{read_within}
use Rattle.build.specs.Building.{values_refusal, bands_refusal, build_refusal, destination_short, scratch_short}
use Rattle.build.specs.LeastBand.{least_band_refusal}
use Rattle.build.specs.Inner.{Acceptable, Buildable, Counted}

-- setpoints and a rest value that are not refused
pub record ProfileAccepted (profile : List ℤ) (rest : ℤ) : Type 0 where
  pub slots : SlotsWithin (length profile)
  pub in_range : InRange profile rest

pub profile_accepted : (profile : List ℤ) (rest : ℤ) → values_refusal profile rest ≡ 0 → ProfileAccepted profile rest
profile_accepted profile rest none =
    let four = passed 3 (outside_slots (length profile)) _ none in
    let two = passed 1 (beyond 20000 rest) _ four.1 in
    let near = passed_last 1 (any_beyond profile) two.1 in
    record {
      slots = slots_within (length profile) four.0;
      in_range = record {
        setpoints_within = λ slot counts. within_all profile (subst (λ (far : Bool). T (not far)) (sym near) tt) slot;
        rest_within = ltb-false 20000 (nat_abs rest) two.0;
      };
    }

-- and 1 to 512 setpoints and a rest value in range are not refused
pub values_accepted : (profile : List ℤ) (rest : ℤ) → 1 ≤ length profile → length profile ≤ 512 → InRange profile rest → values_refusal profile rest ≡ 0
values_accepted profile rest some_slot few_slots in_range =
    rw (
      ne_eqb (length profile) 0 (λ none. omega arith),
      le-ltb 512 (length profile) few_slots,
      le-ltb 20000 (nat_abs rest) in_range.rest_within,
      none_beyond_range profile (read_within in_range),
    )

-- no setpoint is beyond ±20,000
pub none_beyond : (profile : List ℤ) (rest : ℤ) → values_refusal profile rest ≡ 0 → any_beyond profile ≡ false
none_beyond profile rest none =
    let four = passed 3 (outside_slots (length profile)) _ none in
    passed_last 1 (any_beyond profile) (passed 1 (beyond 20000 rest) _ four.1).1

pub acceptable : {profile : List ℤ} {rest : ℤ} → ProfileAccepted profile rest → (scratch : List ℤ) → scratch_short (length scratch) ≡ false → Acceptable profile rest scratch
acceptable accepted scratch long = record {
  few_slots = accepted.slots.few_slots;
  in_range = accepted.in_range;
  scratch_long = ltb-false (length scratch) 12288 long;
}

pub findable : (profile : List ℤ) (rest : ℤ) (budget : ℕ) (scratch : List ℤ) → least_band_refusal profile rest budget (length scratch) ≡ 0 → Acceptable profile rest scratch
findable profile rest budget scratch none =
    let of-profile = none_of_two (values_refusal profile rest) _ none in
    let five = passed 4 (ltb 1023 budget) _ of-profile.1 in
    acceptable (profile_accepted profile rest of-profile.0) scratch (passed_last 5 (scratch_short (length scratch)) five.1)

module _ (profile : List ℤ) (rest band : ℤ) (specials : List SpecialSlot) (places numbers : ℕ) (none : build_refusal profile rest band specials places numbers ≡ 0) where
  -- the three parts of what building refuses
  of_values : values_refusal profile rest ≡ 0
  of_values = (none_of_two (values_refusal profile rest) _ none).0

  later_none : bands_refusal (length profile) band specials then 6 when (destination_short profile places || scratch_short numbers) ≡ 0
  later_none = (none_of_two (values_refusal profile rest) _ none).1

  of_bands : bands_refusal (length profile) band specials ≡ 0
  of_bands = (none_of_two (bands_refusal (length profile) band specials) _ later_none).0

  pub band_inside : outside_band band ≡ false
  band_inside = (passed 2 (outside_band band) _ of_bands).0

  pub band_within : nat_abs band ≤ 40000
  band_within = band_accepted band band_inside

  -- the special slots are right
  pub specials_accepted : T (right_specials (length profile) (nat_abs band) specials)
  specials_accepted = rw (not-false (right_specials (length profile) (nat_abs band) specials) (passed_last 10 _ (passed 2 (outside_band band) _ of_bands).1)) tt

  long_enough : (destination_short profile places ≡ false) × (scratch_short numbers ≡ false)
  long_enough = neither_holds (destination_short profile places) (scratch_short numbers) (passed_last 5 _ (none_of_two (bands_refusal (length profile) band specials) _ later_none).1)

pub buildable : (profile : List ℤ) (rest band : ℤ) (specials : List SpecialSlot) (nodes : List ℕ) (values scratch : List ℤ) → length nodes ≡ length values
    → build_refusal profile rest band specials (length nodes) (length scratch) ≡ 0 → Buildable profile rest (slot_bands (length profile) (nat_abs band) specials) nodes values scratch
buildable profile rest band specials nodes values scratch same_length none =
    let accepted = profile_accepted profile rest (of_values profile rest band specials (length nodes) (length scratch) none) in
    let long = long_enough profile rest band specials (length nodes) (length scratch) none in
    record {
      acceptable = acceptable accepted scratch long.1;
      some_slot = accepted.slots.some_slot;
      right = record {
        values_right = of_values profile rest band specials (length nodes) (length scratch) none;
        each_band = length_slot_bands (length profile) (nat_abs band) specials;
        bands_within = bands_within (nat_abs band) (length profile) specials (band_within profile rest band specials (length nodes) (length scratch) none) (specials_accepted profile rest band specials (length nodes) (length scratch) none);
      };
      same_length = same_length;
      destination_long = ltb-false (length nodes) (padded (length profile)) long.0;
    }

-- as many slots go by a band of their own as there are special slots
pub all_counted : (profile : List ℤ) (rest band : ℤ) (specials own : List ℕ) (places numbers : ℕ) → length specials ≡ length own
    → build_refusal profile rest band (special_slots specials own) places numbers ≡ 0
    → Counted (nat_abs band) (length specials) (slot_bands (length profile) (nat_abs band) (special_slots specials own))
all_counted profile rest band specials own places numbers same_length none =
    let right = specials_accepted profile rest band (special_slots specials own) places numbers none in
    record {
      specials_are =
          sym (ap (λ (list : List SpecialSlot). length list) (specials_of_bands (nat_abs band) (length profile) (special_slots specials own) right) ∙ length_specials specials own same_length);
      common_within = band_within profile rest band (special_slots specials own) places numbers none;
    }
