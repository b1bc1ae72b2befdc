-- The bands of two profiles with one common band: they are the same exactly where the special slots are, so their numbers of special slots may decide.
use mathlib.Core.Path.{◌≡◌, sym, ap, ap₂, ◌∙◌}
use mathlib.Core.Bool.{true, false}
use mathlib.Core.List.{List, []}
use Prim.Native.Nat.{ℕ}
use lib.Dec.{T}
use lib.Ieee.Bits.{is_true}
use lib.IntN.{pos, nat_abs}
use lib.ListN.{length}
use Rattle.profile.specs.Text.{band_of, setpoints_of, bands_of, specials_of}
use Rattle.profile.proofs.Accepted.{as_many_bands}
use Rattle.bands.specs.Bands.{right_specials, slot_bands, specials_among, same_bands}
use Rattle.bands.proofs.Bands.{specials_of_bands, bands_of_specials, none_special}
use Rattle.bands.proofs.Same.{equal_same, differ}
use Rattle.record.specs.Record.{slots_in, band_in, special_count_in, specials_in, bands_in}
use Rattle.record.proofs.Entries.{length_from}
use Rattle.offers.specs.Inner.{SameCommon}

module _ {bands others : List ℕ} {specials those : ℕ} (same_common : SameCommon bands specials others those) where
  abbrev common : ℕ
  common = same_common.common

  -- other numbers of special slots
  pub other_numbers : (specials ≡ those → ⊥) → false ≡ same_bands bands others
  other_numbers differ-in =
      sym (differ bands others (λ equal. differ-in (same_common.specials_are ∙ ap (λ (list : List ℕ). length (specials_among common list)) equal ∙ sym same_common.those_are)))

  -- no special slots
  pub none_special_each : specials ≡ 0 → those ≡ 0 → true ≡ same_bands bands others
  none_special_each none none_there =
      let left = none_special common bands (sym same_common.specials_are ∙ none) in
      let right = none_special common others (sym same_common.those_are ∙ none_there) in
      sym (is_true _ (equal_same bands others (left ∙ ap (λ (slots : ℕ). slot_bands slots common []) same_common.same_length ∙ sym right)))

-- ---- a record's special slots, by its bands

-- a record has as many special slots as its count says
pub specials_counted : (bytes : List ℕ) → length (specials_in bytes) ≡ special_count_in bytes
specials_counted bytes = length_from _ _ (special_count_in bytes) _ bytes

pub specials_by_bands : (bytes : List ℕ) → T (right_specials (slots_in bytes) (band_in bytes) (specials_in bytes)) → specials_among (band_in bytes) (bands_in bytes) ≡ specials_in bytes
specials_by_bands bytes right = specials_of_bands (band_in bytes) (slots_in bytes) (specials_in bytes) right

module _ (text bytes : List ℕ) (same_band : pos (band_in bytes) ≡ band_of text) where
  common_same : band_in bytes ≡ nat_abs (band_of text)
  common_same = ap nat_abs same_band

  -- with a text's common band, its bands are the text's exactly where its special slots are
  pub bands_then_specials : T (right_specials (slots_in bytes) (band_in bytes) (specials_in bytes)) → bands_in bytes ≡ bands_of text → specials_in bytes ≡ specials_of text
  bands_then_specials right same = sym (specials_by_bands bytes right) ∙ ap₂ specials_among common_same same

  pub specials_then_bands : slots_in bytes ≡ length (setpoints_of text) → specials_in bytes ≡ specials_of text → bands_in bytes ≡ bands_of text
  specials_then_bands same_length same =
      let slots : slots_in bytes ≡ length (bands_of text) = same_length ∙ sym (as_many_bands text) in
      ap (λ (n : ℕ). slot_bands n (band_in bytes) (specials_in bytes)) slots ∙ ap₂ (slot_bands (length (bands_of text))) common_same same
      ∙ bands_of_specials (nat_abs (band_of text)) (bands_of text)
