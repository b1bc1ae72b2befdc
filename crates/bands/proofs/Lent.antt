-- Special slots that are lent as two lists of equal length: how many there are, and the list seen from a place on.
use mathlib.Core.Path.{◌≡◌, refl, ap, ◌∙◌}
use mathlib.Core.Bool.{◌&&◌}
use mathlib.Core.List.{List, [], ◌∷◌}
use Prim.Native.Nat.{ℕ, suc, ◌<◌}
use native.Mathlib.Omega.{arith}
use lib.ListN.{length, get_or, drop}
use lib.Seq.{drop-cons}
use Rattle.bands.specs.declared.SpecialSlot.{SpecialSlot}
use Rattle.bands.specs.Bands.{special_slots, right_from}
use Rattle.bands.specs.Inner.{right_here}
use Rattle.bands.proofs.Right.{right_first}

-- as many special slots as slots
pub length_specials : (slots bands : List ℕ) → length slots ≡ length bands → length (special_slots slots bands) ≡ length slots
unfolding special_slots
length_specials [] bands same = refl
length_specials (slot ∷ slots) [] same = absurd (omega arith)
length_specials (slot ∷ slots) (band ∷ bands) same = ap suc (length_specials slots bands (omega arith))

-- the special slots from a place on
abbrev pub onwards : List ℕ → List ℕ → ℕ → List SpecialSlot
onwards slots bands place = special_slots (drop place slots) (drop place bands)

-- the special slot at a place
abbrev pub special_at : List ℕ → List ℕ → ℕ → SpecialSlot
special_at slots bands place = record { slot = get_or slots place 0; band = get_or bands place 0 }

module _ (slots bands : List ℕ) (place : ℕ) (same : length slots ≡ length bands) (within : place < length slots) where
  pub special_there : onwards slots bands place ≡ special_at slots bands place ∷ onwards slots bands (suc place)
  unfolding special_slots
  special_there = rw (drop-cons slots place 0 within, drop-cons bands place 0 (omega arith))

  pub right_there : (first n common : ℕ)
      → right_from first n common (onwards slots bands place)
      ≡ (right_here first n common (get_or slots place 0) (get_or bands place 0) && right_from (suc (get_or slots place 0)) n common (onwards slots bands (suc place)))
  right_there first n common = ap (right_from first n common) special_there ∙ right_first first n common (special_at slots bands place) (onwards slots bands (suc place))
