-- Bands of which none is special are all the common one: it is the least of them, and what a least margin leaves of it is the greatest error.
use mathlib.Core.Path.{◌≡◌, sym, ap, ◌∙◌}
use mathlib.Core.List.{List, []}
use Prim.Native.Nat.{ℕ, ◌-◌, ◌≤◌, ◌<◌}
use native.Mathlib.Omega.{arith}
use lib.IntN.{ℤ}
use lib.ListN.{length}
use Rattle.bands.specs.Bands.{band_at}
use Rattle.bands.specs.Inner.{Least}
use Rattle.bands.proofs.Bands.{band_of_slot, none_special}
use Rattle.histogram.specs.Terms.{paired}
use Rattle.histogram.specs.Errors.{slot_band, greatest_error}
use Rattle.histogram.proofs.Margins.{keeps_greatest, margin_of_one_band}
use Rattle.build.specs.Inner.{Counted, Kept}

module _ (common : ℕ) (bands : List ℕ) (counted : Counted common 0 bands) where
  pub one_for_all : (slot : ℕ) → slot < length bands → slot_band bands slot ≡ common
  unfolding band_at
  one_for_all slot inside =
      ap (λ (list : List ℕ). slot_band list slot) (none_special common bands (sym counted.specials_are)) ∙ band_of_slot (length bands) common [] slot inside

  pub common_least : 1 ≤ length bands → Least bands (length bands) common
  common_least some = record {
    none_less = λ slot inside. omega (arith, one_for_all slot inside);
    slot = 0;
    within = some;
    is_its_band = one_for_all 0 some;
  }

  module _ {profile : List ℤ} {rest : ℤ} {margin : ℕ} {nodes : List ℕ} {values : List ℤ} (kept : Kept profile rest bands margin nodes values) where
    each_slot : (slot : ℕ) → slot < length profile → slot_band bands slot ≡ common
    each_slot slot counts = one_for_all slot (omega (arith, kept.judgeable.each_band))

    margin_left : margin ≡ common - greatest_error profile rest (paired nodes values)
    margin_left = sym kept.margin_is ∙ margin_of_one_band profile rest (paired nodes values) bands common each_slot kept.judgeable.some_slot

    pub margin_within : margin ≤ common
    margin_within = omega (arith, margin_left)

    pub error_left : common - margin ≡ greatest_error profile rest (paired nodes values)
    error_left = omega (arith, margin_left, keeps_greatest profile rest (paired nodes values) bands common each_slot kept.keeps)
