-- Results of the calls from C: a refusal with its fields 0, and the fields of a success.
use mathlib.Core.Path.{◌≡◌, refl, ◌∙◌}
use mathlib.Core.Bool.{false}
use mathlib.Core.List.{List}
use Prim.Native.Nat.{ℕ, zero, suc, ◌≤◌, ◌<◌}
use native.Mathlib.Omega.{arith}
use lib.Dec.{ltb}
use lib.IntN.{ℤ}
use lib.ListN.{length}
use borrow.Author.Tests.{lt-ltb, le-ltb}
use Rattle.std.specs.Prelude.{Result, Ok, Err}
use Rattle.refusals.specs.declared.Refusal.{Refusal}
use Rattle.refusals.specs.Rows.{row}
use Rattle.refusals.specs.Answers.{refused_with}
use Rattle.refusals.proofs.Rows.{row_counts, row_first}
use Rattle.profile.specs.Text.{text_refusal, setpoints_of, specials_of}
use Rattle.record_check.specs.Checking.{Checked}
use Rattle.build.specs.LeastBand.{LeastBandFound}
use Rattle.panel.specs.Results.{packed_fields, result, against_text_result, least_band_of_text_refusal, LeastBandOfText}
use Rattle.profile.proofs.Accepted.{Held}
use Rattle.panel.proofs.Texts.{known_profile}

-- a refusal leaves the other fields 0
pub refused_result : (refusal first second third : ℕ) → 0 < refusal → packed_fields refusal 0 0 0 ≡ result refusal first second third
refused_result zero first second third wrong = absurd (omega arith)
refused_result (suc refusal) first second third wrong = refl

pub refused_packed : (refusal : Refusal) (first second third : ℕ) → packed_fields (row refusal) 0 0 0 ≡ result (row refusal) first second third
refused_packed refusal first second third = refused_result (row refusal) first second third (row_counts refusal)

-- ---- a record against a text

pub check_refused : (bytes text : List ℕ) (profile : List ℤ) (refusal : Refusal) → text_refusal text ≡ 0 → profile ≡ setpoints_of text → Checked profile bytes (Err refusal)
    → packed_fields (row refusal) 0 0 0 ≡ against_text_result bytes text
check_refused bytes text profile refusal right profile-is checked = rw (right, ← profile-is, ← checked.refusal_is) (refused_packed refusal _ _ _)

-- ---- the least band of a text

pub least_refused : (text : List ℕ) (budget : ℕ) (refusal : Refusal) → row refusal ≡ text_refusal text → LeastBandOfText text budget (packed_fields (row refusal) 0 0 0)
least_refused text budget refusal is =
    let counts : least_band_of_text_refusal text budget ≡ row refusal = rw (← is) (row_first refusal _) in
    record { band = 0; least = λ none. absurd (omega (arith, counts, row_counts refusal)); result_is = rw counts (refused_packed refusal 0 0 0) }

pub specials_refused : (text : List ℕ) (budget : ℕ) → text_refusal text ≡ 0 → 0 < length (specials_of text) → LeastBandOfText text budget (packed_fields 12 0 0 0)
specials_refused text budget right some =
    let twelve : least_band_of_text_refusal text budget ≡ 12 = rw (right, lt-ltb 0 (length (specials_of text)) some) in
    record { band = 0; least = λ none. absurd (omega (arith, twelve)); result_is = rw twelve }

pub budget_refused : (text : List ℕ) (budget : ℕ) → text_refusal text ≡ 0 → length (specials_of text) ≤ 0 → 1023 < budget → LeastBandOfText text budget (packed_fields 5 0 0 0)
budget_refused text budget right none_special large =
    let five : least_band_of_text_refusal text budget ≡ 5 = rw (right, le-ltb 0 (length (specials_of text)) none_special, lt-ltb 1023 budget large) in
    record { band = 0; least = λ none. absurd (omega (arith, five)); result_is = rw five }

module _ {text : List ℕ} {rest band : ℤ} {slots specials : ℕ} {room : List ℤ} {bands : List ℕ} {budget : ℕ} {profile scratch scratch' : List ℤ}
    (held : Held text rest band slots specials room bands) (none_special : specials ≤ 0) (few : budget ≤ 1023) (profile-is : profile ≡ setpoints_of text) (long : 12288 ≤ length scratch) where
  -- the search is not refused
  not_refused : {answer : Result ℕ Refusal} → LeastBandFound profile rest budget answer scratch scratch' → refused_with answer ≡ 0
  not_refused found =
      let right = (known_profile text held.not_refused).right in
      let enough : ltb (length scratch) 12288 ≡ false = le-ltb (length scratch) 12288 long in
      found.refusal_is ∙ rw (profile-is, held.rest_is, right.values_right, le-ltb 1023 budget few, enough)

  pub least_found_right : {refusal : Refusal} → LeastBandFound profile rest budget (Err refusal) scratch scratch' → ⊥
  least_found_right {refusal} found = omega (arith, not_refused found, row_counts refusal)

  pub least_packed : {least : ℕ} → LeastBandFound profile rest budget (Ok least) scratch scratch' → LeastBandOfText text budget (packed_fields 0 least 0 0)
  least_packed {least} found =
      let no_special : ltb 0 (length (specials_of text)) ≡ false = le-ltb 0 (length (specials_of text)) (omega (arith, held.specials_is)) in
      record {
        band = least;
        least = λ right'. rw (profile-is, held.rest_is) at (found.least refl);
        result_is = rw (held.not_refused, no_special, le-ltb 1023 budget few);
      }
