-- What a call answers: what was asked for, or a refusal. For the auditor.
use Rattle.std.specs.Prelude.{ℕ, Result, Ok, Err}
use Rattle.refusals.specs.declared.Refusal.{Refusal}
use Rattle.refusals.specs.Rows.{row}

-- "Every refusal returns its number", and a success 0
abbrev pub refused_with : {A : Type 0} → Result A Refusal → ℕ
refused_with (Ok answer) = 0
refused_with (Err refusal) = row refusal

-- what is answered, and `nothing` with a refusal
abbrev pub answered : {A : Type 0} → A → Result A Refusal → A
answered nothing (Ok answer) = answer
answered nothing (Err refusal) = nothing
