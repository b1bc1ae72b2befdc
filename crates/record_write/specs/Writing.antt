-- The answers of writing a record. For the auditor.
use Rattle.std.specs.Prelude.{◌≡◌, List, [], ℕ, ℤ, nat_abs, length, Result}
use Rattle.limits.specs.Answers.{granted, laid}
use Rattle.bands.specs.declared.SpecialSlot.{SpecialSlot}
use Rattle.histogram.specs.declared.Term.{Term}
use Rattle.record.specs.Record.{record_length, record_bytes}
use Rattle.record.specs.Answers.{writing_refusal}
use Rattle.refusals.specs.declared.Refusal.{Refusal}
use Rattle.refusals.specs.Answers.{refused_with, answered}

-- the refusal, how many bytes were written, and what the destination holds before and after
pub record RecordWritten (n : ℕ) (band rest : ℤ) (terms : List Term) (specials : List SpecialSlot) (answer : Result ℕ Refusal) (before after : List ℕ) : Type 0 where
  pub refusal_is : refused_with answer ≡ writing_refusal n band rest terms specials (length before)
  pub count_is : answered 0 answer ≡ granted (refused_with answer) (record_length (length terms) (length specials)) 0
  pub destination_is : after ≡ laid (granted (refused_with answer) (record_bytes n (nat_abs band) rest terms specials) []) before
