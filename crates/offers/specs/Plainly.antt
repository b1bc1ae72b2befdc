-- F-1 with F-6 once more, in propositions: what is true of the part that is handed back. For the auditor.
use Rattle.std.specs.Prelude.{◌≡◌, ◌⊎◌, List, [], ℕ, ◌≤◌, ◌<◌, pos, length}
use Rattle.profile.specs.Text.{text_refusal, rest_of, band_of, setpoints_of, specials_of}
use Rattle.histogram.specs.Errors.{least_margin, Keeps}
use Rattle.record.specs.Record.{slots_in, band_in, rest_in, count_in, terms_in, specials_in, bands_in}
use Rattle.record.specs.Answers.{record_refusal}
use Rattle.offers.specs.Offers.{record_end, record_of, Part, front}

-- a buffer with a candidate for a text that is not refused: its record ends in it, "reads without refusal, has the text's length, band and rest value", its special slots, "and is 'kept'"
pub record HasCandidate (text buffer : List ℕ) : Type 0 where
  pub text_right : text_refusal text ≡ 0
  pub counted : 7 ≤ length buffer
  pub ended : record_end buffer ≤ length buffer
  pub reads : record_refusal (record_of buffer) ≡ 0
  pub same_length : slots_in (record_of buffer) ≡ length (setpoints_of text)
  pub same_band : pos (band_in (record_of buffer)) ≡ band_of text
  pub same_rest : rest_in (record_of buffer) ≡ rest_of text
  pub same_specials : specials_in (record_of buffer) ≡ specials_of text
  pub is_kept : Keeps (setpoints_of text) (rest_in (record_of buffer)) (terms_in (record_of buffer)) (bands_in (record_of buffer))

-- the least margin of the record at the front of a buffer
abbrev pub margin_of : List ℕ → List ℕ → ℕ
margin_of text buffer = least_margin (setpoints_of text) (rest_in (record_of buffer)) (terms_in (record_of buffer)) (bands_in (record_of buffer))

-- "Fewer terms wins, then" the greater least margin
pub data Beats (text buffer other : List ℕ) : Type 0 where
  fewer_terms : count_in (record_of buffer) < count_in (record_of other) → Beats text buffer other
  greater_margin : count_in (record_of buffer) ≡ count_in (record_of other) → margin_of text other < margin_of text buffer → Beats text buffer other

-- the part is the first buffer's candidate, and the second buffer has none that beats it
pub record FirstWins (text : List ℕ) (first second part : Part) : Type 0 where
  pub part_is : part ≡ front (record_end first.bytes) first
  pub candidate : HasCandidate text first.bytes
  pub not_beaten : HasCandidate text second.bytes → Beats text second.bytes first.bytes → ⊥

-- the part is the second buffer's candidate, and it beats that of the first buffer, if there is one
pub record SecondWins (text : List ℕ) (first second part : Part) : Type 0 where
  pub part_is : part ≡ front (record_end second.bytes) second
  pub candidate : HasCandidate text second.bytes
  pub beats : HasCandidate text first.bytes → Beats text second.bytes first.bytes

-- no buffer has a candidate, or the text is refused
pub record NoCandidate (text first second : List ℕ) : Type 0 where
  pub first_none : HasCandidate text first → ⊥
  pub second_none : HasCandidate text second → ⊥

-- "With no candidate or a refused text, and only then, the part is empty, at the start of the first buffer"; else it is the winning record's
pub record HandedBack (text : List ℕ) (first second part : Part) : Type 0 where
  pub refused_is_empty : 0 < text_refusal text → part ≡ front 0 first
  pub none_is_empty : NoCandidate text first.bytes second.bytes → part ≡ front 0 first
  pub empty_is_none : part.bytes ≡ [] → NoCandidate text first.bytes second.bytes
  pub else_wins : (part.bytes ≡ [] → ⊥) → FirstWins text first second part ⊎ SecondWins text first second part
