-- Own bands put in their slots' places, one after another, and put over the common band everywhere.
use mathlib.Core.Path.{◌≡◌, refl, sym, ap, ◌∙◌}
use mathlib.Core.Bool.{Bool, true, false, cond}
use mathlib.Core.List.{List, [], ◌∷◌}
use Prim.Native.Nat.{ℕ, ◌<◌}
use native.Mathlib.Omega.{arith}
use lib.Dec.{eqb}
use lib.ListN.{length, get_or, set}
use lib.Seq.{get_or-set_same, get_or-set_other, ext_get_or}
use borrow.Author.Tests.{eqb-true, eqb-false}
use Rattle.bands.specs.declared.SpecialSlot.{SpecialSlot}
use Rattle.bands.specs.Bands.{band_at, slot_bands}
use Rattle.bands.specs.Inner.{Put}
use Rattle.bands.proofs.Bands.{length_slot_bands, band_of_slot, none_before}
use Rattle.bands.proofs.Right.{RightFrom, rest_right}

-- what a turn puts in a slot, and the special slots behind, give the slot what it is to have
module _ {first n common : ℕ} (special : SpecialSlot) (specials : List SpecialSlot) (right : RightFrom first n common (special ∷ specials)) (now : List ℕ) (inside : special.slot < length now) where
  pub put_one : (slot : ℕ) → band_at (get_or (set now special.slot special.band) slot 0) specials slot ≡ band_at (get_or now slot 0) (special ∷ specials) slot
  unfolding band_at
  put_one slot = split (eqb special.slot slot) refl
    where
      split : (here : Bool) → eqb special.slot slot ≡ here
          → band_at (get_or (set now special.slot special.band) slot 0) specials slot ≡ cond here special.band (band_at (get_or now slot 0) specials slot)
      split true is =
          let same = eqb-true special.slot slot is in
          rw (← same, get_or-set_same now special.slot special.band 0 inside) (none_before specials (rest_right right) special.band special.slot (omega arith))
      split false is =
          let other = eqb-false special.slot slot is in
          rw (get_or-set_other now special.slot slot special.band 0 (λ same. other (sym same)))

module _ (n common : ℕ) {filled : List ℕ} (is-filled : filled ≡ slot_bands n common []) where
  pub length_filled : length filled ≡ n
  length_filled = ap (λ (bands : List ℕ). length bands) is-filled ∙ length_slot_bands n common []

  -- own bands put over the common one
  pub put_over : {specials : List SpecialSlot} {bands : List ℕ} → Put specials filled bands → bands ≡ slot_bands n common specials
  unfolding band_at
  put_over {specials} {bands} put =
      let long = length_filled in
      let as_long : length bands ≡ length (slot_bands n common specials) = omega (arith, put.same_length, length_slot_bands n common specials) in
      ext_get_or 0 bands (slot_bands n common specials) as_long λ slot inside.
      let below : slot < n = omega (arith, put.same_length) in
      put.each slot
      ∙ ap (λ (band : ℕ). band_at band specials slot) (ap (λ (bands : List ℕ). get_or bands slot 0) is-filled ∙ band_of_slot n common [] slot below)
      ∙ sym (band_of_slot n common specials slot below)
