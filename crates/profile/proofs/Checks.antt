-- A line's answer without a check of its numbers, what the checks make of it, and what passed checks say.
use mathlib.Core.Path.{◌≡◌, refl, sym, ap, subst, ◌∙◌}
use mathlib.Core.Bool.{false}
use mathlib.Core.List.{List, [], ◌∷◌}
use mathlib.Core.Option.{Option, none, some}
use Prim.Native.Nat.{ℕ, ◌<◌}
use native.Mathlib.Omega.{arith}
use lib.Dec.{T}
use lib.IntN.{ℤ, pos, negsuc, nat_abs}
use lib.ListN.{drop}
use Rattle.std.specs.Prelude.{Err}
use Rattle.limits.specs.Limits.{beyond, outside_band}
use Rattle.limits.proofs.Refusals.{none_of_two, passed_last}
use Rattle.refusals.specs.declared.Refusal.{Refusal}
use Rattle.refusals.proofs.Rows.{row_counts}
use Rattle.decimal.specs.Answers.{number_or}
use Rattle.profile.specs.Text.{Slot, before, line_number, read_refusal, line_refusal, value_refusal, band_refusal, no_slot, slot_line_refusal}
use Rattle.profile.specs.Inner.{no_check, LineRead}

-- a line whose number was not checked, by its refusal
pub line_none : (text : List ℕ) → 0 < line_refusal no_check text → line_number text ≡ none
unfolding before
line_none [] wrong = refl
line_none (byte ∷ text) wrong = by_number (line_number (byte ∷ text)) wrong
  where
    by_number : (number : Option ℤ) → 0 < read_refusal no_check number → number ≡ none
    by_number none wrong' = refl
    by_number (some number) wrong' = absurd (omega arith)

-- a refusal that comes before the check
line_refused_anyway : (check : ℤ → ℕ) (text : List ℕ) → 0 < line_refusal no_check text → line_refusal no_check text ≡ line_refusal check text
line_refused_anyway check [] wrong = refl
line_refused_anyway check (byte ∷ text) wrong = let nothing = line_none (byte ∷ text) wrong in ap (read_refusal no_check) nothing ∙ sym (ap (read_refusal check) nothing)

-- a line whose number passes a check
pub line_passes : (check : ℤ → ℕ) (text : List ℕ) → line_refusal check text ≡ 0 → check (number_or (pos 0) (line_number text)) ≡ 0
line_passes check [] right = absurd (omega arith)
line_passes check (byte ∷ text) right = of_number (line_number (byte ∷ text)) right
  where
    of_number : (number : Option ℤ) → read_refusal check number ≡ 0 → check (number_or (pos 0) number) ≡ 0
    of_number none right' = absurd (omega arith)
    of_number (some number) right' = right'

-- so a line's own refusal stands, whatever has to be checked of its number
pub refused_line : (check : ℤ → ℕ) {text : List ℕ} {at : ℕ} {refusal : Refusal} → LineRead no_check text at (Err refusal) → LineRead check text at (Err refusal)
refused_line check {text} {at} {refusal} line = record {
  refusal_is = line.refusal_is ∙ line_refused_anyway check (drop at text) (rw (← line.refusal_is) (row_counts refusal));
  line_is = tt;
}

-- a band that is not refused is a natural number
pub band_natural : (band : ℤ) → outside_band band ≡ false → pos (nat_abs band) ≡ band
band_natural (pos band) inside = refl
band_natural (negsuc below) inside = absurd (subst T inside tt)

-- a slot that is not refused: its setpoint lies within ±20,000, its band within 0 to 40,000
pub record Within (slot : Slot) : Type 0 where
  pub setpoint_near : beyond 20000 slot.setpoint ≡ false
  pub band_inside : outside_band slot.band ≡ false

pub slot_within : (said : Option Slot) → read_refusal slot_line_refusal said ≡ 0 → Within (number_or no_slot said)
slot_within none right = absurd (omega arith)
slot_within (some slot) right =
    let both = none_of_two (value_refusal slot.setpoint) (band_refusal slot.band) right in
    record { setpoint_near = passed_last 1 (beyond 20000 slot.setpoint) both.0; band_inside = passed_last 2 (outside_band slot.band) both.1 }
