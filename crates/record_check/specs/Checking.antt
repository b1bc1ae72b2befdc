-- One slot of a record, and the check of setpoints against a record: document 01, "Building, checking, least band", as document 02's F-6 has it. For the auditor.
use Rattle.std.specs.Prelude.{◌≡◌, false, not, cond, List, ℕ, leb, eqb, ℤ, pos, length, Result, Err, is_ok}
use Rattle.limits.specs.Answers.{◌when◌, ◌then◌, granted}
use Rattle.limits.specs.Limits.{outside_slots, any_beyond}
use Rattle.refusals.specs.declared.Refusal.{Refusal}
use Rattle.refusals.specs.Answers.{refused_with, answered}
use Rattle.histogram.specs.Restored.{restored_slot}
use Rattle.histogram.specs.Errors.{greatest_error, least_margin, kept}
use Rattle.verdict.specs.declared.Kept.{Kept}
use Rattle.verdict.specs.declared.Beyond.{Beyond}
use Rattle.verdict.specs.Verdict.{lowest_beyond, error_of, margin_of, slot_of}
use Rattle.record.specs.Record.{slots_in, rest_in, terms_in, bands_in}
use Rattle.record.specs.Answers.{record_refusal}

-- "One slot: the record's without 6, then 10"
abbrev pub record_slot_refusal : List ℕ → ℕ → ℕ
record_slot_refusal bytes slot = record_refusal bytes then 10 when leb (slots_in bytes) slot

-- the answer for one slot of a record
pub record SlotRead (bytes : List ℕ) (slot refusal : ℕ) (setpoint : ℤ) : Type 0 where
  pub refusal_is : refusal ≡ record_slot_refusal bytes slot
  pub setpoint_is : setpoint ≡ granted refusal (restored_slot (slots_in bytes) (rest_in bytes) (terms_in bytes) slot) (pos 0)

-- "Check: 4, 7, 2, 3, 8", 11, "then 2 for the setpoints, 9"
abbrev pub check_refusal : List ℤ → List ℕ → ℕ
check_refusal profile bytes =
    4 when outside_slots (length profile) then record_refusal bytes then 2 when any_beyond profile then 9 when not (eqb (slots_in bytes) (length profile))

-- the verdict of a check; with a refusal it is not kept, and its slot is 0
abbrev pub verdict_of : Result (Result Kept Beyond) Refusal → Result Kept Beyond
verdict_of answer = answered (Err (record { slot = 0 })) answer

-- the answer of the check: kept with the greatest error and the least margin, or not kept with the lowest slot, by the record's rest value and bands; "the other number is 0"
pub record Checked (profile : List ℤ) (bytes : List ℕ) (answer : Result (Result Kept Beyond) Refusal) : Type 0 where
  pub refusal_is : refused_with answer ≡ check_refusal profile bytes
  pub kept_is : is_ok (verdict_of answer) ≡ granted (refused_with answer) (kept profile (rest_in bytes) (terms_in bytes) (bands_in bytes)) false
  pub error_is : error_of (verdict_of answer) ≡ cond (is_ok (verdict_of answer)) (greatest_error profile (rest_in bytes) (terms_in bytes)) 0
  pub margin_is : margin_of (verdict_of answer) ≡ cond (is_ok (verdict_of answer)) (least_margin profile (rest_in bytes) (terms_in bytes) (bands_in bytes)) 0
  pub slot_is : slot_of (verdict_of answer) ≡ granted (refused_with answer) (cond (is_ok (verdict_of answer)) 0 (lowest_beyond profile (rest_in bytes) (terms_in bytes) (bands_in bytes))) 0
