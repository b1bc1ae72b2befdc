-- The special slots and the bands of all slots determine each other: `specials_of_bands` and `bands_of_specials`. Each goes slot by slot, and a special slot
-- that was passed has no say in the slots behind it.
use mathlib.Core.Path.{◌≡◌, refl, sym, ap, ap₂, subst, ◌∙◌}
use mathlib.Core.Bool.{Bool, true, false, cond}
use mathlib.Core.List.{List, [], ◌∷◌}
use Prim.Native.Nat.{ℕ, zero, suc, ◌+◌, ◌<◌, ◌≤◌}
use native.Mathlib.Omega.{arith}
use lib.Dec.{T, eqb}
use lib.ListN.{length, get_or, replicate}
use borrow.Author.Tests.{eq-eqb, ne_eqb, eqb-true, eqb-false}
use Rattle.bands.specs.declared.SpecialSlot.{SpecialSlot}
use Rattle.bands.specs.Bands.{right_specials, band_at, bands_from, slot_bands, specials_from, specials_among}
use Rattle.bands.proofs.Right.{RightFrom, none_right, right_before, first_from, first_below, first_within, first_own, rest_right, right_from_lem, right_sooner, right_few}

-- n slots have n bands
length_from : (slot count common : ℕ) (specials : List SpecialSlot) → length (bands_from slot count common specials) ≡ count
unfolding bands_from
length_from slot zero common specials = refl
length_from slot (suc count) common specials = ap suc (length_from (suc slot) count common specials)

pub length_slot_bands : (n common : ℕ) (specials : List SpecialSlot) → length (slot_bands n common specials) ≡ n
length_slot_bands n common specials = length_from 0 n common specials

-- the band in the place of a slot is the one that the slot goes by
band_from : (slot count common : ℕ) (specials : List SpecialSlot) (place : ℕ) → place < count
    → get_or (bands_from slot count common specials) place 0 ≡ band_at common specials (slot + place)
unfolding bands_from
band_from slot zero common specials place inside = absurd (omega arith)
band_from slot (suc count) common specials zero inside = ap (band_at common specials) (omega arith)
band_from slot (suc count) common specials (suc place) inside =
    band_from (suc slot) count common specials place (omega arith) ∙ ap (band_at common specials) (omega arith)

pub band_of_slot : (n common : ℕ) (specials : List SpecialSlot) (slot : ℕ) → slot < n → get_or (slot_bands n common specials) slot 0 ≡ band_at common specials slot
band_of_slot n common specials slot inside = band_from 0 n common specials slot inside ∙ ap (band_at common specials) (omega arith)

-- with no special slot every slot goes by the common band
common_from : (slot count common : ℕ) → bands_from slot count common [] ≡ replicate count common
unfolding bands_from band_at
common_from slot zero common = refl
common_from slot (suc count) common = ap (λ (bands : List ℕ). common ∷ bands) (common_from (suc slot) count common)

pub all_common : (n common : ℕ) → slot_bands n common [] ≡ replicate n common
all_common n common = common_from 0 n common

-- a slot before the first that can be special goes by the common band
pub none_before : {first n common : ℕ} (specials : List SpecialSlot) → RightFrom first n common specials → (otherwise slot : ℕ) → slot < first
    → band_at otherwise specials slot ≡ otherwise
unfolding band_at
none_before [] right otherwise slot before = refl
none_before (special ∷ specials) right otherwise slot before =
    let from = first_from right in
    rw (ne_eqb special.slot slot (λ same. omega arith)) (none_before specials (rest_right right) otherwise slot (omega arith))

-- a special slot has no say in the slots behind it
passed_special : (special : SpecialSlot) (specials : List SpecialSlot) (common slot count : ℕ) → special.slot < slot
    → bands_from slot count common (special ∷ specials) ≡ bands_from slot count common specials
unfolding bands_from band_at
passed_special special specials common slot zero passed = refl
passed_special special specials common slot (suc count) passed =
    rw (ne_eqb special.slot slot (λ same. omega arith))
    (ap (λ (bands : List ℕ). band_at common specials slot ∷ bands) (passed_special special specials common (suc slot) count (omega arith)))

module _ (common : ℕ) where
  -- the special slots among slots from some place on are none before it
  none_among : (first : ℕ) (bands : List ℕ) (slot : ℕ) → slot < first → band_at common (specials_from first common bands) slot ≡ common
  unfolding band_at specials_from
  none_among first [] slot before = refl
  none_among first (band ∷ bands) slot before = split (eqb band common) (none_among (suc first) bands slot (omega arith))
    where
      split : (same : Bool) → band_at common (specials_from (suc first) common bands) slot ≡ common
          → band_at common (cond same (specials_from (suc first) common bands) (record { slot = first; band = band } ∷ specials_from (suc first) common bands)) slot ≡ common
      split true later = later
      split false later = rw (ne_eqb first slot (λ same. omega arith)) later

  bands_from_lem : (slot : ℕ) (bands : List ℕ) → bands_from slot (length bands) common (specials_from slot common bands) ≡ bands
  unfolding bands_from band_at specials_from
  bands_from_lem slot [] = refl
  bands_from_lem slot (band ∷ bands) = split (eqb band common) refl (bands_from_lem (suc slot) bands)
    where
      split : (same : Bool) → eqb band common ≡ same → bands_from (suc slot) (length bands) common (specials_from (suc slot) common bands) ≡ bands
          → bands_from slot (suc (length bands)) common (cond same (specials_from (suc slot) common bands) (record { slot = slot; band = band } ∷ specials_from (suc slot) common bands))
          ≡ band ∷ bands
      split true is later = ap₂ (λ (b : ℕ) (l : List ℕ). b ∷ l) (none_among (suc slot) bands slot (omega arith) ∙ sym (eqb-true band common is)) later
      split false is later =
          ap₂ (λ (b : ℕ) (l : List ℕ). b ∷ l)
          (rw (eq-eqb slot slot refl))
          (passed_special (record { slot = slot; band = band }) (specials_from (suc slot) common bands) common (suc slot) (length bands) (omega arith) ∙ later)

  pub bands_of_specials : (bands : List ℕ) → slot_bands (length bands) common (specials_among common bands) ≡ bands
  bands_of_specials bands = bands_from_lem 0 bands

  among_from_lem : (slot count : ℕ) {n : ℕ} → slot + count ≡ n → (specials : List SpecialSlot) → RightFrom slot n common specials
      → specials_from slot common (bands_from slot count common specials) ≡ specials
  unfolding bands_from band_at specials_from
  among_from_lem slot zero ends [] right = refl
  among_from_lem slot zero ends (special ∷ specials) right = absurd (omega (arith, first_from right, first_below right))
  among_from_lem slot (suc count) {n} ends [] right = rw (eq-eqb common common refl) (among_from_lem (suc slot) count (omega arith) [] (none_right (suc slot) n common))
  among_from_lem slot (suc count) {n} ends (special ∷ specials) right =
      split (eqb special.slot slot) refl (λ others later. among_from_lem (suc slot) count (omega arith) others later)
    where
      split : (here : Bool) → eqb special.slot slot ≡ here
          → ((others : List SpecialSlot) → RightFrom (suc slot) n common others → specials_from (suc slot) common (bands_from (suc slot) count common others) ≡ others)
          → specials_from slot common (cond here special.band (band_at common specials slot) ∷ bands_from (suc slot) count common (special ∷ specials)) ≡ special ∷ specials
      split true is later =
          let there = eqb-true special.slot slot is in
          let behind = subst (λ (s : ℕ). RightFrom (suc s) n common specials) there (rest_right right) in
          rw (ne_eqb special.band common (first_own right), passed_special special specials common (suc slot) count (omega arith))
          (ap₂ (λ (s : ℕ) (l : List SpecialSlot). record { slot = s; band = special.band } ∷ l) (sym there) (later specials behind))
      split false is later =
          let elsewhere = eqb-false special.slot slot is in
          let from = first_from right in
          let ahead : slot < special.slot = omega arith in
          rw (none_before specials (rest_right right) common slot (omega arith), eq-eqb common common refl) (later (special ∷ specials) (right_from_lem right (suc slot) ahead))

  pub specials_of_bands : (n : ℕ) (specials : List SpecialSlot) → T (right_specials n common specials) → specials_among common (slot_bands n common specials) ≡ specials
  specials_of_bands n specials right = among_from_lem 0 n (omega arith) specials (record { passes = right })

  right_among : (first : ℕ) {n : ℕ} (bands : List ℕ) → first + length bands ≡ n → ((slot : ℕ) → get_or bands slot 0 ≤ 40000)
      → RightFrom first n common (specials_from first common bands)
  unfolding specials_from
  right_among first {n} [] ends within = none_right first n common
  right_among first {n} (band ∷ bands) ends within =
      split (eqb band common) refl (right_among (suc first) bands (omega arith) (λ slot. within (suc slot)))
    where
      split : (same : Bool) → eqb band common ≡ same → RightFrom (suc first) n common (specials_from (suc first) common bands)
          → RightFrom first n common (cond same (specials_from (suc first) common bands) (record { slot = first; band = band } ∷ specials_from (suc first) common bands))
      split true is later = right_sooner (specials_from (suc first) common bands) later first (omega arith)
      split false is later = right_before (record { slot = first; band = band }) (omega arith) (omega arith) (within 0) (eqb-false band common is) later

  -- the special slots among bands of 0 to 40,000 are right
  pub specials_right_lem : (bands : List ℕ) → ((slot : ℕ) → get_or bands slot 0 ≤ 40000) → T (right_specials (length bands) common (specials_among common bands))
  specials_right_lem bands within = (right_among 0 {n = length bands} bands (omega arith) within).passes

  few_from : (slot : ℕ) (bands : List ℕ) → length (specials_from slot common bands) ≤ length bands
  unfolding specials_from
  few_from slot [] = omega arith
  few_from slot (band ∷ bands) = split (eqb band common) (few_from (suc slot) bands)
    where
      split : (same : Bool) → length (specials_from (suc slot) common bands) ≤ length bands
          → length (cond same (specials_from (suc slot) common bands) (record { slot = slot; band = band } ∷ specials_from (suc slot) common bands)) ≤ suc (length bands)
      split true later = omega arith
      split false later = omega arith

  -- there are no more special slots than slots
  pub few_among : (bands : List ℕ) → length (specials_among common bands) ≤ length bands
  few_among bands = few_from 0 bands

  pub few_specials : (n : ℕ) (specials : List SpecialSlot) → T (right_specials n common specials) → length specials ≤ n
  few_specials n specials right = omega (arith, right_few specials (omega arith) (record { passes = right }))

  -- bands of which none is special: every slot goes by the common band
  pub none_special : (bands : List ℕ) → length (specials_among common bands) ≡ 0 → bands ≡ slot_bands (length bands) common []
  none_special bands none = sym (bands_of_specials bands) ∙ ap (slot_bands (length bands) common) (empty (specials_among common bands) none)
    where
      empty : (specials : List SpecialSlot) → length specials ≡ 0 → specials ≡ []
      empty [] none = refl
      empty (special ∷ specials) none = absurd (omega arith)

  -- the band that a slot goes by lies within 0 to 40,000
  pub band_within : {first n : ℕ} (specials : List SpecialSlot) → RightFrom first n common specials → (otherwise : ℕ) → otherwise ≤ 40000 → (slot : ℕ)
      → band_at otherwise specials slot ≤ 40000
  unfolding band_at
  band_within [] right otherwise within slot = within
  band_within (special ∷ specials) right otherwise within slot = split (eqb special.slot slot) (band_within specials (rest_right right) otherwise within slot)
    where
      split : (here : Bool) → band_at otherwise specials slot ≤ 40000 → cond here special.band (band_at otherwise specials slot) ≤ 40000
      split true later = first_within right
      split false later = later

  within_from : {first n : ℕ} (specials : List SpecialSlot) → RightFrom first n common specials → common ≤ 40000 → (slot count place : ℕ)
      → get_or (bands_from slot count common specials) place 0 ≤ 40000
  unfolding bands_from
  within_from specials right within slot zero place = omega arith
  within_from specials right within slot (suc count) zero = band_within specials right common within slot
  within_from specials right within slot (suc count) (suc place) = within_from specials right within (suc slot) count place

  pub bands_within : (n : ℕ) (specials : List SpecialSlot) → common ≤ 40000 → T (right_specials n common specials) → (slot : ℕ)
      → get_or (slot_bands n common specials) slot 0 ≤ 40000
  bands_within n specials within right slot = within_from specials (record { passes = right }) within 0 n slot
