-- The verdict on a synopsis: document 01, "Building, checking, least band", what the check answers, as document 02's F-6 has it. For the auditor.
use Rattle.std.specs.Prelude.{◌≡◌, cond, List, ℕ, ltb, ℤ, Result, Ok, Err, is_ok}
use Rattle.limits.specs.Lowest.{lowest}
use Rattle.histogram.specs.declared.Term.{Term}
use Rattle.histogram.specs.Errors.{slot_error, slots_of, slot_band, greatest_error, least_margin, kept}
use Rattle.verdict.specs.declared.Kept.{Kept}
use Rattle.verdict.specs.declared.Beyond.{Beyond}

-- "the lowest slot whose error exceeds the band", which is the slot's
abbrev pub lowest_beyond : List ℤ → ℤ → List Term → List ℕ → ℕ
lowest_beyond profile rest terms bands = lowest (λ slot. ltb (slot_band bands slot) (slot_error profile rest terms slot)) (slots_of profile)

-- the error reported, 0 with "not kept"
abbrev pub error_of : Result Kept Beyond → ℕ
error_of (Ok kept) = kept.error
error_of (Err beyond) = 0

-- the margin reported, 0 with "not kept"
abbrev pub margin_of : Result Kept Beyond → ℕ
margin_of (Ok kept) = kept.margin
margin_of (Err beyond) = 0

-- the slot reported, 0 with "kept"
abbrev pub slot_of : Result Kept Beyond → ℕ
slot_of (Ok kept) = 0
slot_of (Err beyond) = beyond.slot

-- "kept" with the greatest error, or "not kept" with the lowest slot; "the other number is 0". With the greatest error the least margin, which the better of two offers compares
pub record Judged (profile : List ℤ) (rest : ℤ) (terms : List Term) (bands : List ℕ) (verdict : Result Kept Beyond) : Type 0 where
  pub kept_is : is_ok verdict ≡ kept profile rest terms bands
  pub error_is : error_of verdict ≡ cond (is_ok verdict) (greatest_error profile rest terms) 0
  pub margin_is : margin_of verdict ≡ cond (is_ok verdict) (least_margin profile rest terms bands) 0
  pub slot_is : slot_of verdict ≡ cond (is_ok verdict) 0 (lowest_beyond profile rest terms bands)
