-- The answers of reading and writing one number. For the auditor.
use Rattle.std.specs.Prelude.{◌≡◌, ℕ, Bool, true, false, ltb, List, [], length, ℤ, pos}
use Rattle.std.proofs.Math.Option.{Option, none, some}
use Rattle.limits.specs.Answers.{◌when◌, ◌then◌, granted, laid}
use Rattle.limits.specs.Limits.{beyond}
use Rattle.decimal.specs.Number.{reads_as}
use Rattle.decimal.specs.Written.{written}

-- whether there is no number
abbrev pub is_none {ℓ} : {A : Type ℓ} → Option A → Bool
is_none none = true
is_none (some number) = false

-- the number, and `otherwise` where there is none
abbrev pub number_or {ℓ} : {A : Type ℓ} → A → Option A → A
number_or otherwise none = otherwise
number_or otherwise (some number) = number

-- "A number read by itself: 1 alone"
pub record NumberRead (field : List ℕ) (refusal : ℕ) (number : ℤ) : Type 0 where
  pub refusal_is : refusal ≡ 1 when is_none (reads_as field)
  pub number_is : number ≡ number_or (pos 0) (reads_as field)

-- "A number written out: 2, then 6 if the destination is shorter than its text"
abbrev pub number_writing_refusal : ℤ → ℕ → ℕ
number_writing_refusal number places = 2 when beyond 40000 number then 6 when ltb places (length (written number))

-- what is written: the text, and nothing on a refusal
abbrev pub written_text : ℕ → ℤ → List ℕ
written_text refusal number = granted refusal (written number) []

-- the refusal, how many bytes were written, and what the destination holds before and after
pub record NumberWritten (number : ℤ) (refusal count : ℕ) (before after : List ℕ) : Type 0 where
  pub refusal_is : refusal ≡ number_writing_refusal number (length before)
  pub count_is : count ≡ length (written_text refusal number)
  pub destination_is : after ≡ laid (written_text refusal number) before
