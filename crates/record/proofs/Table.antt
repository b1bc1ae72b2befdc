-- The layouts in the documents' own numbers: what the widths of the rows add up to, where each field stands, and how long records are.
use mathlib.Core.Path.{◌≡◌, refl, ap}
use mathlib.Core.List.{List, ◌++◌, append-nil}
use Prim.Native.Nat.{ℕ, suc, ◌+◌, ◌*◌, ◌-◌, ◌/◌, ◌<◌}
use native.Mathlib.Omega.{arith}
use lib.IntN.{ℤ}
use lib.ListN.{get_or}
use Rattle.bands.specs.declared.SpecialSlot.{SpecialSlot}
use Rattle.bands.specs.Bands.{slot_numbers_of, own_bands_of}
use Rattle.bits.specs.Bits.{bits, field_at}
use Rattle.bits.specs.Signed.{complement, signed_of}
use Rattle.histogram.specs.declared.Term.{Term}
use Rattle.record.specs.Layout.{layout_width, layout_bits}
use Rattle.record.specs.Record.{header_layout, term_layout, special_layout, special_count_width, header_bits, term_bits, terms_end, record_length, version_in, slots_in, band_in, rest_in, count_in, special_count_in, special_in, specials_in}
use Rattle.record.proofs.Entries.{entry_at}

pub header_width : layout_width header_layout ≡ 55
header_width = refl

-- "t terms, 26 each"
pub term_width : layout_width term_layout ≡ 26
term_width = refl

-- "for each 9 bits of slot and 16 of band"
pub special_width : layout_width special_layout ≡ 25
special_width = refl

-- "the whole part of (55 + 26t + 7) / 8 bytes" without special slots
pub plain_length : (terms : ℕ) → record_length terms 0 ≡ (55 + 26 * terms + 7) / 8
plain_length terms = ap (λ (end : ℕ). (end + 7) / 8) (omega arith)

-- and with them 10 bits, and 25 for each of them, more
pub special_length : (terms more : ℕ) → record_length terms (suc more) ≡ (65 + 26 * terms + 25 * suc more + 7) / 8
special_length terms more = ap (λ (end : ℕ). (end + 7) / 8) (omega arith)

-- "7 for t = 0, 11 for t = 1, 3,332 for t = 1,023"
pub lengths_stated : (record_length 0 0 ≡ 7) × (record_length 1 0 ≡ 11) × (record_length 1023 0 ≡ 3332)
lengths_stated = (refl, refl, refl)

-- and with special slots, up to the longest record that reads
pub special_lengths : (record_length 0 1 ≡ 12) × (record_length 1 1 ≡ 15) × (record_length 0 512 ≡ 1609) × (record_length 512 512 ≡ 3273) × (record_length 1023 512 ≡ 4933)
special_lengths = (refl, refl, refl, refl, refl)

pub header_fields : (version n band : ℕ) (rest : ℤ) (count : ℕ)
    → header_bits version n band rest count ≡ bits 4 version ++ (bits 9 (n - 1) ++ (bits 16 band ++ (bits 16 (complement 16 rest) ++ bits 10 count)))
header_fields version n band rest count = rw (append-nil (bits 10 count))

pub term_fields : (term : Term) → term_bits term ≡ bits 10 term.node ++ bits 16 (complement 16 term.value)
term_fields term = rw (append-nil (bits 16 (complement 16 term.value)))

pub special_fields : (special : SpecialSlot) → layout_bits special_layout special ≡ bits 9 special.slot ++ bits 16 special.band
special_fields special = rw (append-nil (bits 16 special.band))

module _ (bytes : List ℕ) where
  pub version_field : version_in bytes ≡ field_at bytes 0 4
  version_field = refl

  pub length_field : slots_in bytes ≡ field_at bytes 4 9 + 1
  length_field = refl

  pub band_field : band_in bytes ≡ field_at bytes 13 16
  band_field = refl

  pub rest_field : rest_in bytes ≡ signed_of 16 (field_at bytes 29 16)
  rest_field = refl

  pub count_field : count_in bytes ≡ field_at bytes 45 10
  count_field = refl

  -- in version 2 the count of special slots stands at bit 55 + 26t
  pub special_count_field : version_in bytes ≡ 2 → special_count_in bytes ≡ field_at bytes (55 + 26 * count_in bytes) 10
  special_count_field second = rw second

  -- and special slot i at bit 65 + 26t + 25i
  pub slot_field : (i : ℕ) → i < special_count_in bytes → get_or (slot_numbers_of (specials_in bytes)) i 0 ≡ field_at bytes (55 + 26 * count_in bytes + 10 + 25 * i) 9
  slot_field i inside = entry_at special_layout special_in (λ special. special.slot) 0 (special_count_in bytes) i (terms_end (count_in bytes) + special_count_width) bytes inside

  pub own_band_field : (i : ℕ) → i < special_count_in bytes → get_or (own_bands_of (specials_in bytes)) i 0 ≡ field_at bytes (55 + 26 * count_in bytes + 10 + 25 * i + 9) 16
  own_band_field i inside = entry_at special_layout special_in (λ special. special.band) 0 (special_count_in bytes) i (terms_end (count_in bytes) + special_count_width) bytes inside
