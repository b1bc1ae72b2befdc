-- What inner functions ask and promise. A reader of the promises need not open this file.
use Rattle.std.specs.Prelude.{◌≡◌, Bool, false, ◌&&◌, List, ℕ, ◌≤◌, ◌<◌, eqb, ℤ, nat_abs, length}
use Rattle.limits.specs.Limits.{outside_slots, any_beyond}
use Rattle.bands.specs.Bands.{specials_among}
use Rattle.record_read.specs.declared.Header.{Header}
use Rattle.offers.specs.Offers.{record_end, same_number}

-- setpoints that are not refused, a band for each, the common band, and how many of them are not the common one
pub record Profile (profile : List ℤ) (bands : List ℕ) (band : ℤ) (specials : ℕ) : Type 0 where
  pub slots_inside : outside_slots (length profile) ≡ false
  pub setpoints_near : any_beyond profile ≡ false
  pub each_band : length bands ≡ length profile
  pub specials_are : specials ≡ length (specials_among (nat_abs band) bands)

-- the bands of as many slots each, by one common band, and how many of each are not the common one
pub record SameCommon (bands : List ℕ) (specials : ℕ) (others : List ℕ) (those : ℕ) : Type 0 where
  pub common : ℕ
  pub same_length : length bands ≡ length others
  pub specials_are : specials ≡ length (specials_among common bands)
  pub those_are : those ≡ length (specials_among common others)

-- where the record at the front of a buffer ends, if it ends in the buffer; else some place behind the buffer
pub record EndRead (buffer : List ℕ) (end : ℕ) : Type 0 where
  pub inside : end ≤ length buffer → end ≡ record_end buffer
  pub outside : length buffer < end → length buffer < record_end buffer

-- whether a header has a length, a rest value and a band
abbrev pub header_is_for : Header → ℕ → ℤ → ℤ → Bool
header_is_for header slots rest band = eqb header.slots slots && same_number header.band band && same_number header.rest rest
