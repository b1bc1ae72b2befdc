-- The better of two offers: document 02, F-1, with its F-6. For the auditor.
-- `proofs/Plainly.antt` shows that the part handed back is what F-1 says in words, `HandedBack` of specs/Plainly.antt: `handed_back`.
use Rattle.std.specs.Prelude.{Bool, false, cond, ◌&&◌, ◌||◌, List, ℕ, leb, ltb, eqb, ℤ, pos, negsuc, length, take, Option, None, Some}
use Rattle.std.specs.Borrow.{Bor}
use Rattle.limits.specs.Answers.{granted}
use Rattle.bands.specs.Bands.{same_bands}
use Rattle.profile.specs.Text.{text_refusal, rest_of, band_of, setpoints_of, bands_of}
use Rattle.histogram.specs.Errors.{least_margin, kept}
use Rattle.record.specs.Record.{slots_in, band_in, rest_in, count_in, terms_in, bands_in, bytes_in}
use Rattle.record.specs.Answers.{record_refusal}
use Rattle.offers.specs.declared.Candidate.{Candidate}
use Rattle.offers.specs.declared.Winner.{Winner}
use Rattle.offers.specs.declared.Winner.TheVariants.{Neither, First, Second}

-- "its count says where it ends", "both counts say where a version 2 ends": how many bytes the record at the front of a buffer has
abbrev pub record_end : List ℕ → ℕ
record_end buffer = bytes_in buffer

-- whether that record is there: a buffer of 7 bytes or more has a count, and the record ends where the buffer does or before
abbrev pub has_record : List ℕ → Bool
has_record buffer = leb 7 (length buffer) && leb (record_end buffer) (length buffer)

-- the record at the front of a buffer, without the "bytes behind it"
abbrev pub record_of : List ℕ → List ℕ
record_of buffer = take (record_end buffer) buffer

-- whether two numbers are the same
abbrev pub same_number : ℤ → ℤ → Bool
same_number (pos m) (pos n) = eqb m n
same_number (pos m) (negsuc n) = false
same_number (negsuc m) (pos n) = false
same_number (negsuc m) (negsuc n) = eqb m n

-- whether a record "has the text's length, band and rest value", "also has the text's special slots": by its band, that is the same band in every slot
abbrev pub is_for : List ℤ → ℤ → ℤ → List ℕ → List ℕ → Bool
is_for profile rest band bands bytes =
    eqb (slots_in bytes) (length profile) && same_number (pos (band_in bytes)) band && same_number (rest_in bytes) rest && same_bands (bands_in bytes) bands

-- "A candidate reads without refusal, has the text's length, band and rest value", its special slots, "and is 'kept'"
abbrev pub is_candidate : List ℤ → ℤ → ℤ → List ℕ → List ℕ → Bool
is_candidate profile rest band bands bytes =
    eqb (record_refusal bytes) 0 && is_for profile rest band bands bytes && kept profile (rest_in bytes) (terms_in bytes) (bands_in bytes)

-- what a record offers for a profile where it is a candidate: how many bytes and terms it has, and its least margin
abbrev pub candidate_offer : List ℤ → ℤ → ℤ → List ℕ → List ℕ → Option Candidate
candidate_offer profile rest band bands bytes =
    cond (is_candidate profile rest band bands bytes)
    (Some (record { size = length bytes; terms = count_in bytes; margin = least_margin profile (rest_in bytes) (terms_in bytes) (bands_in bytes) }))
    None

-- what a buffer offers: what the record at its front does
abbrev pub offer_of : List ℤ → ℤ → ℤ → List ℕ → List ℕ → Option Candidate
offer_of profile rest band bands buffer = cond (has_record buffer) (candidate_offer profile rest band bands (record_of buffer)) None

-- "Fewer terms wins, then" the greater least margin, which "takes the place of the smaller error"
abbrev pub beats : Candidate → Candidate → Bool
beats candidate other = ltb candidate.terms other.terms || (eqb candidate.terms other.terms && ltb other.margin candidate.margin)

-- "then the first buffer"
abbrev pub better : Option Candidate → Option Candidate → Winner
better None None = Neither
better None (Some second) = Second second.size
better (Some first) None = First first.size
better (Some first) (Some second) = cond (beats second first) (Second second.size) (First first.size)

-- the winner of two buffers for a profile
abbrev pub winner_for : List ℤ → ℤ → ℤ → List ℕ → List ℕ → List ℕ → Winner
winner_for profile rest band bands first second = better (offer_of profile rest band bands first) (offer_of profile rest band bands second)

-- and for a text; none for "a refused text"
abbrev pub winner : List ℕ → List ℕ → List ℕ → Winner
winner text first second = granted (text_refusal text) (winner_for (setpoints_of text) (rest_of text) (band_of text) (bands_of text) first second) Neither

-- a part of lent memory: where it begins, a block and an offset in it, and its bytes
pub record Part : Type 0 where
  pub place : ℕ × ℕ
  pub bytes : List ℕ

-- the part that a reference lends
abbrev pub part_of : Bor (List ℕ) → Part
part_of reference = record { place = reference.ref_ptr; bytes = reference.now }

-- so many bytes at the start of a part
abbrev pub front : ℕ → Part → Part
front size part = record { place = part.place; bytes = take size part.bytes }

-- "the winning record's bytes, as part of the buffer they came in"; with no winner "the part is empty, at the start of the first buffer"
abbrev pub winning_part : Winner → Part → Part → Part
winning_part Neither first second = front 0 first
winning_part (First size) first second = front size first
winning_part (Second size) first second = front size second

-- the part that is handed back
abbrev pub better_offer : List ℕ → Part → Part → Part
better_offer text first second = winning_part (winner text first.bytes second.bytes) first second
