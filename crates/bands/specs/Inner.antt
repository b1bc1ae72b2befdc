-- What inner functions ask and promise. A reader of the promises need not open this file.
use Rattle.std.specs.Prelude.{◌≡◌, Bool, not, ◌&&◌, List, ℕ, ◌≤◌, ◌<◌, T, leb, ltb, eqb, length, get_or}
use Rattle.limits.specs.Answers.{laid}
use Rattle.bands.specs.declared.SpecialSlot.{SpecialSlot}
use Rattle.bands.specs.Bands.{special_slots, slot_numbers_of, own_bands_of, right_specials, band_at}

-- a special slot from `first` on and below n, its band within 0 to 40,000 and not the common one
abbrev pub right_here : (first n common slot band : ℕ) → Bool
right_here first n common slot band = leb first slot && (ltb slot n && (leb band 40000 && not (eqb band common)))

-- special slots lent as two lists, right for the slots of a list of bands
pub record Right (common : ℕ) (specials own bands : List ℕ) : Type 0 where
  pub same_length : length specials ≡ length own
  pub passes : T (right_specials (length bands) common (special_slots specials own))

-- the same, for some common band
pub record RightForSome (specials own bands : List ℕ) : Type 0 where
  pub common : ℕ
  pub right : Right common specials own bands

-- each special slot has its own band, every other what it had
pub record Put (specials : List SpecialSlot) (before after : List ℕ) : Type 0 where
  pub same_length : length after ≡ length before
  pub each : (slot : ℕ) → get_or after slot 0 ≡ band_at (get_or before slot 0) specials slot

-- few bands, and room for the special slots among them
pub record Room (gathered : List SpecialSlot) (bands specials own : List ℕ) : Type 0 where
  pub few_slots : length bands ≤ 512
  pub for_slots : length gathered ≤ length specials
  pub for_bands : length gathered ≤ length own

-- special slots laid over two lists, their slots over one and their bands over the other
pub record Gathered (gathered : List SpecialSlot) (specials own specials' own' : List ℕ) : Type 0 where
  pub slots_laid : specials' ≡ laid (slot_numbers_of gathered) specials
  pub bands_laid : own' ≡ laid (own_bands_of gathered) own

-- the least band of the first `slots` slots: none of them goes by a lesser one, and one goes by it
pub record Least (bands : List ℕ) (slots least : ℕ) : Type 0 where
  pub none_less : (slot : ℕ) → slot < slots → least ≤ get_or bands slot 0
  pub slot : ℕ
  pub within : slot < slots
  pub is_its_band : get_or bands slot 0 ≡ least
