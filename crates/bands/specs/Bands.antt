-- Special slots, and the band that each slot goes by: document 02, F-6. For the auditor.
-- `proofs/Bands.antt` shows that the special slots and the bands of all slots determine each other: `specials_of_bands` and `bands_of_specials`.
use Rattle.std.specs.Prelude.{Bool, true, false, not, cond, ◌&&◌, List, [], ◌∷◌, map, ℕ, zero, suc, leb, ltb, eqb}
use Rattle.bands.specs.declared.SpecialSlot.{SpecialSlot}

-- the special slots whose slots and bands are lent as two lists
unfoldable pub special_slots : List ℕ → List ℕ → List SpecialSlot
special_slots [] bands = []
special_slots (slot ∷ slots) [] = []
special_slots (slot ∷ slots) (band ∷ bands) = record { slot = slot; band = band } ∷ special_slots slots bands

-- the slots and the bands of special slots, as two lists
abbrev pub slot_numbers_of : List SpecialSlot → List ℕ
slot_numbers_of specials = map (λ (special : SpecialSlot). special.slot) specials

abbrev pub own_bands_of : List SpecialSlot → List ℕ
own_bands_of specials = map (λ (special : SpecialSlot). special.band) specials

-- slots strictly ascending from `first` on and below n, bands within 0 to 40,000, none of them the common one
unfoldable pub right_from : (first n common : ℕ) → List SpecialSlot → Bool
right_from first n common [] = true
right_from first n common (special ∷ specials) =
    leb first special.slot
    && (ltb special.slot n && (leb special.band 40000 && (not (eqb special.band common) && right_from (suc special.slot) n common specials)))

-- row 11: special slots for n slots and a common band
abbrev pub right_specials : ℕ → ℕ → List SpecialSlot → Bool
right_specials n common specials = right_from 0 n common specials

-- the band that a slot goes by: "the slot's own band", and the common one where it has none
unfoldable pub band_at : ℕ → List SpecialSlot → ℕ → ℕ
band_at common [] slot = common
band_at common (special ∷ specials) slot = cond (eqb special.slot slot) special.band (band_at common specials slot)

-- the bands that `count` slots from `slot` on go by
unfoldable pub bands_from : (slot count : ℕ) → ℕ → List SpecialSlot → List ℕ
bands_from slot zero common specials = []
bands_from slot (suc count) common specials = band_at common specials slot ∷ bands_from (suc slot) count common specials

-- the band that each of n slots goes by
abbrev pub slot_bands : ℕ → ℕ → List SpecialSlot → List ℕ
slot_bands n common specials = bands_from 0 n common specials

-- the special slots among slots from `slot` on, by the bands that these go by
unfoldable pub specials_from : (slot common : ℕ) → List ℕ → List SpecialSlot
specials_from slot common [] = []
specials_from slot common (band ∷ bands) =
    cond (eqb band common) (specials_from (suc slot) common bands) (record { slot = slot; band = band } ∷ specials_from (suc slot) common bands)

-- "an own band equal to the common one makes no special slot": the special slots, by the band that each slot goes by
abbrev pub specials_among : ℕ → List ℕ → List SpecialSlot
specials_among common bands = specials_from 0 common bands

-- whether two lists of bands are the same: `same_equal` and `equal_same` of `proofs/Same.antt` show that it says whether they are equal
unfoldable pub same_bands : List ℕ → List ℕ → Bool
same_bands [] [] = true
same_bands [] (other ∷ others) = false
same_bands (band ∷ bands) [] = false
same_bands (band ∷ bands) (other ∷ others) = eqb band other && same_bands bands others
