-- What inner functions ask and promise. A reader of the promises need not open this file.
use Rattle.std.specs.Prelude.{◌≡◌, Bool, true, cond, List, [], ℕ, ◌+◌, ◌*◌, ◌^◌, ◌≤◌, ◌<◌, ltb, ℤ, pos, Option, Some, None, Result, length, drop}
use Rattle.limits.specs.Answers.{◌when◌, ◌then◌, granted, laid}
use Rattle.limits.specs.Limits.{beyond}
use Rattle.bands.specs.declared.SpecialSlot.{SpecialSlot}
use Rattle.bands.specs.Bands.{right_specials, slot_bands}
use Rattle.bands.specs.Inner.{Put}
use Rattle.bits.specs.Bits.{number_of, bits_of}
use Rattle.histogram.specs.declared.Term.{Term}
use Rattle.histogram.specs.Terms.{nodes_of, values_of}
use Rattle.record.specs.Layout.{layout_width, entries_from}
use Rattle.record.specs.Record.{header_layout, special_layout, terms_end, fields_end, bytes_for, version_in, slots_in, band_in, rest_in, count_in, terms_from, terms_in, special_count_in, special_in, specials_in, known_version, well_formed, specials_right}
use Rattle.record.specs.Answers.{header_refusal, record_refusal}
use Rattle.record.specs.Inner.{Counted}
use Rattle.refusals.specs.declared.Refusal.{Refusal}
use Rattle.refusals.specs.Answers.{refused_with, answered}
use Rattle.record_read.specs.declared.Header.{Header}
use Rattle.record_read.specs.declared.Frame.{Frame}
use Rattle.record_read.specs.Reading.{no_header, HeaderOf}

-- a record read into room for 1,023 terms and the bands of 512 slots, for the calls that have no destination of the caller's.
-- The room holds the terms where the header is not refused, and the band that each slot goes by where nothing is.
pub record RoomRead (bytes : List ℕ) (answer : Result Header Refusal) (nodes nodes' : List ℕ) (values values' : List ℤ) (bands bands' : List ℕ) : Type 0 where
  pub refusal_is : refused_with answer ≡ record_refusal bytes
  pub header : HeaderOf bytes answer
  pub nodes_are : nodes' ≡ laid (granted (header_refusal bytes) (nodes_of (terms_in bytes)) []) nodes
  pub values_are : values' ≡ laid (granted (header_refusal bytes) (values_of (terms_in bytes)) []) values
  pub bands_long : length bands' ≡ length bands
  pub bands_are : refused_with answer ≡ 0 → bands' ≡ laid (slot_bands (slots_in bytes) (band_in bytes) (specials_in bytes)) bands

-- room for the nodes and the values of every record's terms, and for the bands of its slots
pub record Room (nodes : List ℕ) (values : List ℤ) (bands : List ℕ) : Type 0 where
  pub of_nodes : 1023 ≤ length nodes
  pub of_values : 1023 ≤ length values
  pub of_bands : 512 ≤ length bands

-- whether a record passes row 7, and its counts of terms and special slots where it does
abbrev pub frame_in : List ℕ → Option Frame
frame_in bytes = cond (well_formed bytes) (Some (record { count = count_in bytes; specials = special_count_in bytes })) None

-- a version 2 of 7 bytes or more, and its count of terms
pub record SecondOpen (bytes : List ℕ) (count : ℕ) : Type 0 where
  pub long_enough : 7 ≤ length bytes
  pub version_is : version_in bytes ≡ 2
  pub count_is : count ≡ count_in bytes

-- a known version of 7 bytes or more, and its counts
pub record FrameOpen (bytes : List ℕ) (version count specials : ℕ) : Type 0 where
  pub long_enough : 7 ≤ length bytes
  pub version_is : version ≡ version_in bytes
  pub known : known_version version ≡ true
  pub count_is : count ≡ count_in bytes
  pub specials_is : specials ≡ special_count_in bytes

-- bytes that are as many as a record of that version has with so many terms and special slots
pub record Framed (bytes : List ℕ) (version count specials : ℕ) : Type 0 where
  pub few : Counted count specials
  pub long : length bytes ≡ bytes_for version count specials

-- the bits after the last field of such a record, as a number
abbrev pub fill_after : (version count specials : ℕ) → List ℕ → ℕ
fill_after version count specials bytes = number_of (drop (fields_end version count specials) (bits_of bytes))

-- what is wrong with the rest value and the band of a well-formed record
abbrev pub fields_refusal : List ℕ → ℕ
fields_refusal bytes = 2 when beyond 20000 (rest_in bytes) then 3 when ltb 40000 (band_in bytes)

-- the header of a record whose counts are known
pub record FieldsRead (bytes : List ℕ) (known knownSpecials : ℕ) (answer : Result Header Refusal) : Type 0 where
  pub refusal_is : refused_with answer ≡ fields_refusal bytes
  pub slots_is : (answered no_header answer).slots ≡ granted (refused_with answer) (slots_in bytes) 0
  pub band_is : (answered no_header answer).band ≡ granted (refused_with answer) (pos (band_in bytes)) (pos 0)
  pub rest_is : (answered no_header answer).rest ≡ granted (refused_with answer) (rest_in bytes) (pos 0)
  pub count_is : (answered no_header answer).count ≡ granted (refused_with answer) known 0
  pub specials_is : (answered no_header answer).specials ≡ granted (refused_with answer) knownSpecials 0

-- the header of a record, with the refusals 7, 2 and 3
pub record HeaderRead (bytes : List ℕ) (answer : Result Header Refusal) : Type 0 where
  pub refusal_is : refused_with answer ≡ header_refusal bytes
  pub header : HeaderOf bytes answer

-- a record that has that many terms, and room for them
pub record TermsFit (bytes : List ℕ) (count : ℕ) (nodes : List ℕ) (values : List ℤ) : Type 0 where
  pub few : count ≤ 1023
  pub inside : terms_end count ≤ 8 * length bytes
  pub in_nodes : count ≤ length nodes
  pub in_values : count ≤ length values

-- that many terms behind a header
abbrev pub first_terms : ℕ → List ℕ → List Term
first_terms count bytes = terms_from count (layout_width header_layout) bytes

-- these terms, laid over the room
pub record TermsLaid (bytes : List ℕ) (count : ℕ) (nodes nodes' : List ℕ) (values values' : List ℤ) : Type 0 where
  pub nodes_are : nodes' ≡ laid (nodes_of (first_terms count bytes)) nodes
  pub values_are : values' ≡ laid (values_of (first_terms count bytes)) values

-- a well-formed record by its counts and its common band, and a place for each slot's band
pub record BandsFit (bytes : List ℕ) (terms specials common : ℕ) (bands : List ℕ) : Type 0 where
  pub form_is_right : well_formed bytes ≡ true
  pub terms_is : terms ≡ count_in bytes
  pub specials_is : specials ≡ special_count_in bytes
  pub common_is : common ≡ band_in bytes
  pub as_many : length bands ≡ slots_in bytes

-- whether its special slots are right, and the band that each slot goes by where they are
pub record BandsRead (bytes : List ℕ) (right : Bool) (bands' : List ℕ) : Type 0 where
  pub right_is : right ≡ specials_right bytes
  pub bands_are : right ≡ true → bands' ≡ slot_bands (slots_in bytes) (band_in bytes) (specials_in bytes)

-- that many special slots from a place on
abbrev pub specials_at : ℕ → ℕ → List ℕ → List SpecialSlot
specials_at count place bytes = entries_from special_layout special_in count place bytes

-- room for them in the bytes, and few slots
pub record WalkFits (bytes : List ℕ) (place specials : ℕ) (bands : List ℕ) : Type 0 where
  pub few_slots : length bands ≤ 512
  pub few : specials ≤ 1023
  pub near : place < 2 ^ 32
  pub inside : place + layout_width special_layout * specials ≤ 8 * length bytes

-- whether they are right, and their bands put in their slots' places where they are
pub record WalkRead (specials : List SpecialSlot) (common : ℕ) (right : Bool) (bands bands' : List ℕ) : Type 0 where
  pub right_is : right ≡ right_specials (length bands) common specials
  pub put : right ≡ true → Put specials bands bands'
