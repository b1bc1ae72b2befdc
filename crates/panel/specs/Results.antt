-- The calls from C: document 01, "Building, checking, least band", its last paragraph, and "What the panel turns away"; document 02, F-1, F-5, F-6 and F-7. For the auditor.
-- A result packs four 16-bit fields, lowest first: the refusal's number, and three more that a refusal leaves 0.
use Rattle.std.specs.Prelude.{◌≡◌, cond, List, [], ℕ, ◌+◌, ◌*◌, ltb, nat_abs, length}
use Rattle.limits.specs.Answers.{◌when◌, ◌then◌, granted, laid}
use Rattle.profile.specs.Text.{text_refusal, rest_of, band_of, setpoints_of, bands_of, specials_of}
use Rattle.bits.specs.Signed.{complement}
use Rattle.histogram.specs.declared.Term.{Term}
use Rattle.histogram.specs.Restored.{restored_slot}
use Rattle.histogram.specs.Errors.{greatest_error, kept}
use Rattle.verdict.specs.Verdict.{lowest_beyond}
use Rattle.record.specs.Record.{record_length, record_bytes, slots_in, rest_in, terms_in, bands_in}
use Rattle.record_check.specs.Checking.{record_slot_refusal, check_refusal}
use Rattle.offers.specs.declared.Winner.{Winner}
use Rattle.offers.specs.declared.Winner.TheVariants.{Neither, First, Second}
use Rattle.offers.specs.Offers.{winner}
use Rattle.claims.specs.First.{first_synopsis}
use Rattle.claims.specs.LeastBand.{LeastBand}
use Rattle.air.specs.Flows.{flow_of, flow_refusal, lowest_step, step_refusal}

-- four fields of 16 bits in one number, lowest first
abbrev pub packed_fields : ℕ → ℕ → ℕ → ℕ → ℕ
packed_fields refusal first second third = refusal + 65536 * (first + 65536 * (second + 65536 * third))

-- the refusal, and where it is none three fields
abbrev pub result : ℕ → ℕ → ℕ → ℕ → ℕ
result refusal first second third = packed_fields refusal (granted refusal first 0) (granted refusal second 0) (granted refusal third 0)

-- the synopsis of a text's profile: the first best one for its rest value and the band that each slot goes by
abbrev pub synopsis_of : List ℕ → List Term
synopsis_of text = first_synopsis (setpoints_of text) (rest_of text) (bands_of text)

-- its record, with the text's special slots, and how many bytes that has
abbrev pub text_record : List ℕ → List ℕ
text_record text = record_bytes (length (setpoints_of text)) (nat_abs (band_of text)) (rest_of text) (synopsis_of text) (specials_of text)

abbrev pub text_record_length : List ℕ → ℕ
text_record_length text = record_length (length (synopsis_of text)) (length (specials_of text))

-- "Text to record: text, then 6 if the destination is shorter than the record"
abbrev pub text_to_record_refusal : List ℕ → ℕ → ℕ
text_to_record_refusal text places = text_refusal text then 6 when ltb places (text_record_length text)

-- text to record: bytes written, terms, greatest error; and the destination, with the record over its front
pub record TextToRecord (text before after : List ℕ) (number : ℕ) : Type 0 where
  pub result_is : number
      ≡ result (text_to_record_refusal text (length before)) (text_record_length text) (length (synopsis_of text)) (greatest_error (setpoints_of text) (rest_of text) (synopsis_of text))
  pub destination_is : after ≡ laid (granted (text_to_record_refusal text (length before)) (text_record text) []) before

-- one slot of a record: the setpoint in two's complement, 0, 0
abbrev pub slot_result : List ℕ → ℕ → ℕ
slot_result bytes slot = result (record_slot_refusal bytes slot) (complement 16 (restored_slot (slots_in bytes) (rest_in bytes) (terms_in bytes) slot)) 0 0

-- "Record against text: text, then the check's"
abbrev pub against_text_refusal : List ℕ → List ℕ → ℕ
against_text_refusal bytes text = text_refusal text then check_refusal (setpoints_of text) bytes

-- record against text: 1 for kept and 0 for not kept, the greatest error, the lowest slot whose error exceeds its band
abbrev pub against_text_result : List ℕ → List ℕ → ℕ
against_text_result bytes text =
    let is_kept = kept (setpoints_of text) (rest_in bytes) (terms_in bytes) (bands_in bytes) in
    result (against_text_refusal bytes text)
    (1 when is_kept)
    (cond is_kept (greatest_error (setpoints_of text) (rest_in bytes) (terms_in bytes)) 0)
    (cond is_kept 0 (lowest_beyond (setpoints_of text) (rest_in bytes) (terms_in bytes) (bands_in bytes)))

-- "Least band of a text: text, then 5"; F-6, "12 .. just ahead of 5: it has special slots"
abbrev pub least_band_of_text_refusal : List ℕ → ℕ → ℕ
least_band_of_text_refusal text budget = text_refusal text then 12 when ltb 0 (length (specials_of text)) then 5 when ltb 1023 budget

-- least band of a text: the band, 0, 0
pub record LeastBandOfText (text : List ℕ) (budget number : ℕ) : Type 0 where
  pub band : ℕ
  pub least : least_band_of_text_refusal text budget ≡ 0 → LeastBand (setpoints_of text) (rest_of text) budget band
  pub result_is : number ≡ result (least_band_of_text_refusal text budget) band 0 0

-- a winner, which is no refusal: which buffer's record wins, 0 for none, how many bytes it has, 0
abbrev pub winner_result : Winner → ℕ
winner_result Neither = packed_fields 0 0 0 0
winner_result (First size) = packed_fields 0 1 size 0
winner_result (Second size) = packed_fields 0 2 size 0

-- the better of two offers for a text
abbrev pub better_offer_result : List ℕ → List ℕ → List ℕ → ℕ
better_offer_result text first second = winner_result (winner text first second)

-- primary air, the flow of a step: the flow, 0, 0
abbrev pub flow_result : ℕ → ℕ
flow_result step = result (flow_refusal step) (flow_of step) 0 0

-- the lowest step for a flow: the step, 0, 0
abbrev pub step_result : ℕ → ℕ
step_result flow = result (step_refusal flow) (lowest_step flow_of flow) 0 0
