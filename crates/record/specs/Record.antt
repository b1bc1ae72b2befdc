-- The record: document 01, "The record", with document 02's F-6. What is written, in the order of its table, and what bytes read as. For the auditor.
-- `proofs/RoundTrips.antt` shows that the two halves belong together: `written_reads_back` and `accepted_is_written`.
-- `proofs/Table.antt` has its widths, places and lengths in the document's numbers.
use Rattle.std.specs.Prelude.{Bool, not, cond, ◌&&◌, ◌||◌, List, [], ◌∷◌, ◌++◌, ℕ, zero, suc, ◌+◌, ◌*◌, ◌-◌, ◌/◌, leb, eqb, ℤ, length, get_or, drop}
use Rattle.bands.specs.declared.SpecialSlot.{SpecialSlot}
use Rattle.bands.specs.Bands.{right_specials, slot_bands}
use Rattle.bits.specs.Bits.{number_of, bits, bits_of, field_at, packed}
use Rattle.bits.specs.Signed.{signed_of}
use Rattle.histogram.specs.declared.Term.{Term}
use Rattle.record.specs.Layout.{Field, unsigned, twos_complement, layout_width, layout_bits, layout_numbers, entries_bits, entries_from}

-- what a header says: the version, n, the band, the rest value and t
pub record Header : Type 0 where
  pub version : ℕ
  pub slots : ℕ
  pub band : ℕ
  pub rest : ℤ
  pub count : ℕ

-- "version 4 | length 9, n-1 | band 16, unsigned | rest 16, two's complement | count 10, t"
abbrev pub header_layout : List (Field Header)
header_layout =
    unsigned 4 (λ header. header.version)
    ∷ unsigned 9 (λ header. header.slots - 1)
    ∷ unsigned 16 (λ header. header.band)
    ∷ twos_complement 16 (λ header. header.rest)
    ∷ unsigned 10 (λ header. header.count)
    ∷ []

-- "node (10, unsigned), value (16, two's complement)"
abbrev pub term_layout : List (Field Term)
term_layout =
    unsigned 10 (λ term. term.node)
    ∷ twos_complement 16 (λ term. term.value)
    ∷ []

-- F-6, "9 bits of slot and 16 of band"
abbrev pub special_layout : List (Field SpecialSlot)
special_layout =
    unsigned 9 (λ special. special.slot)
    ∷ unsigned 16 (λ special. special.band)
    ∷ []

-- "a 10-bit count of special slots"
abbrev pub special_count_width : ℕ
special_count_width = 10

-- the bits of a header, and those of a term
abbrev pub header_bits : ℕ → ℕ → ℕ → ℤ → ℕ → List ℕ
header_bits version n band rest count = layout_bits header_layout (record { version = version; slots = n; band = band; rest = rest; count = count })

abbrev pub term_bits : Term → List ℕ
term_bits term = layout_bits term_layout term

-- "t terms"
abbrev pub terms_bits : List Term → List ℕ
terms_bits terms = entries_bits term_layout terms

-- "A profile without special slots is still written as version 1", one with them as version 2: the version by how many there are
abbrev pub version_for : ℕ → ℕ
version_for zero = 1
version_for (suc more) = 2

-- "after the terms": the count of special slots, then each of them; nothing where there are none, which is version 1
abbrev pub specials_bits : List SpecialSlot → List ℕ
specials_bits [] = []
specials_bits (special ∷ specials) = bits special_count_width (length (special ∷ specials)) ++ entries_bits special_layout (special ∷ specials)

-- the fields "packed most significant bit first, without gaps"
abbrev pub record_bits : ℕ → ℕ → ℤ → List Term → List SpecialSlot → List ℕ
record_bits n band rest terms specials = header_bits (version_for (length specials)) n band rest (length terms) ++ (terms_bits terms ++ specials_bits specials)

-- "55 + 26t": the place behind the last of t terms
abbrev pub terms_end : ℕ → ℕ
terms_end count = layout_width header_layout + layout_width term_layout * count

-- the bits after the terms, by the version and the count of special slots: 10 + 25q in version 2, none in any other
abbrev pub specials_width : (version count : ℕ) → ℕ
specials_width version count = cond (eqb version 2) (special_count_width + layout_width special_layout * count) 0

-- the place behind the last field: "the byte count and fill adjusted"
abbrev pub fields_end : (version terms specials : ℕ) → ℕ
fields_end version terms specials = terms_end terms + specials_width version specials

-- "A record has exactly the whole part of (55 + 26t + 7) / 8 bytes", in version 1; in both by the last field's end
abbrev pub bytes_for : (version terms specials : ℕ) → ℕ
bytes_for version terms specials = (fields_end version terms specials + 7) / 8

-- how many bytes the record of so many terms and special slots has
abbrev pub record_length : (terms specials : ℕ) → ℕ
record_length terms specials = bytes_for (version_for specials) terms specials

-- the bytes of a record, "fill 0 to 7, zeros to the end of the byte"
abbrev pub record_bytes : ℕ → ℕ → ℤ → List Term → List SpecialSlot → List ℕ
record_bytes n band rest terms specials = packed (record_length (length terms) (length specials)) (record_bits n band rest terms specials)

-- the numbers in the five rows of the header at the front of a record's bytes
abbrev pub header_numbers : List ℕ → List ℕ
header_numbers bytes = layout_numbers header_layout 0 bytes

-- version, n, band, rest value and count, from these rows
abbrev pub version_in : List ℕ → ℕ
version_in bytes = get_or (header_numbers bytes) 0 0

abbrev pub slots_in : List ℕ → ℕ
slots_in bytes = get_or (header_numbers bytes) 1 0 + 1

abbrev pub band_in : List ℕ → ℕ
band_in bytes = get_or (header_numbers bytes) 2 0

abbrev pub rest_in : List ℕ → ℤ
rest_in bytes = signed_of 16 (get_or (header_numbers bytes) 3 0)

abbrev pub count_in : List ℕ → ℕ
count_in bytes = get_or (header_numbers bytes) 4 0

-- the term at a place, from its two rows
abbrev pub term_in : ℕ → List ℕ → Term
term_in place bytes =
    let numbers : List ℕ = layout_numbers term_layout place bytes in
    record { node = get_or numbers 0 0; value = signed_of 16 (get_or numbers 1 0) }

-- the terms from a place on, `count` of them
abbrev pub terms_from : ℕ → ℕ → List ℕ → List Term
terms_from count place bytes = entries_from term_layout term_in count place bytes

-- the terms of a record's bytes: as many as the count says, behind the header
abbrev pub terms_in : List ℕ → List Term
terms_in bytes = terms_from (count_in bytes) (layout_width header_layout) bytes

-- the count of special slots, behind the terms of a version 2; none in another version
abbrev pub special_count_in : List ℕ → ℕ
special_count_in bytes = cond (eqb (version_in bytes) 2) (field_at bytes (terms_end (count_in bytes)) special_count_width) 0

-- the special slot at a place, from its two rows
abbrev pub special_in : ℕ → List ℕ → SpecialSlot
special_in place bytes =
    let numbers : List ℕ = layout_numbers special_layout place bytes in
    record { slot = get_or numbers 0 0; band = get_or numbers 1 0 }

-- the special slots of a record's bytes: as many as their count says, behind it
abbrev pub specials_in : List ℕ → List SpecialSlot
specials_in bytes = entries_from special_layout special_in (special_count_in bytes) (terms_end (count_in bytes) + special_count_width) bytes

-- the band that each slot of a record goes by: "The check takes bands from the record"
abbrev pub bands_in : List ℕ → List ℕ
bands_in bytes = slot_bands (slots_in bytes) (band_in bytes) (specials_in bytes)

-- the place behind a record's last field, by its version and its counts
abbrev pub end_in : List ℕ → ℕ
end_in bytes = fields_end (version_in bytes) (count_in bytes) (special_count_in bytes)

-- how many bytes a record has by its version and its counts
abbrev pub bytes_in : List ℕ → ℕ
bytes_in bytes = bytes_for (version_in bytes) (count_in bytes) (special_count_in bytes)

-- the number that the bits after the last field write: 0 where the fill is zeros
abbrev pub fill_in : List ℕ → ℕ
fill_in bytes = number_of (drop (end_in bytes) (bits_of bytes))

-- "row 7 refuses versions other than 1 and 2"
abbrev pub known_version : ℕ → Bool
known_version version = eqb version 1 || eqb version 2

-- passes row 7: 7 bytes or more, a known version, the byte count of its terms and special slots, and a fill of zeros
abbrev pub well_formed : List ℕ → Bool
well_formed bytes = leb 7 (length bytes) && (known_version (version_in bytes) && (eqb (length bytes) (bytes_in bytes) && eqb (fill_in bytes) 0))

-- passes row 11: not "a version 2 with no special slot", and its special slots are right for its length and its common band
abbrev pub specials_right : List ℕ → Bool
specials_right bytes =
    not (eqb (version_in bytes) 2 && eqb (special_count_in bytes) 0) && right_specials (slots_in bytes) (band_in bytes) (specials_in bytes)
