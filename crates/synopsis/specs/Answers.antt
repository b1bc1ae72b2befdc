-- The answers of the calls that hand terms or special slots over in slices of them. For the auditor.
-- The answers of the other calls are those of the crates below, on the lists of terms and of special slots that are lent.
use Rattle.std.specs.Prelude.{◌≡◌, List, [], ℕ, ◌<◌, ℤ, length, drop, Result}
use Rattle.limits.specs.Answers.{granted, laid}
use Rattle.refusals.specs.declared.Refusal.{Refusal}
use Rattle.refusals.specs.Answers.{refused_with}
use Rattle.bands.specs.declared.SpecialSlot.{SpecialSlot}
use Rattle.profile.specs.Text.{setpoints_of, specials_of}
use Rattle.profile.specs.Answers.{profile_refusal, NumbersOf}
use Rattle.profile.specs.declared.TextNumbers.{TextNumbers}
use Rattle.histogram.specs.declared.Term.{Term}
use Rattle.record.specs.Record.{terms_in, specials_in}
use Rattle.record.specs.Answers.{reading_refusal}
use Rattle.record_read.specs.declared.Header.{Header}
use Rattle.record_read.specs.Reading.{HeaderOf}
use Rattle.build.specs.Building.{count_of}
use Rattle.build.specs.declared.BuiltSynopsis.{BuiltSynopsis}

-- a record read into destinations for its terms and for its special slots
pub record TermsRead (bytes : List ℕ) (answer : Result Header Refusal) (terms terms' : List Term) (specials specials' : List SpecialSlot) : Type 0 where
  pub refusal_is : refused_with answer ≡ reading_refusal bytes (length terms) (length specials)
  pub header : HeaderOf bytes answer
  pub terms_are : terms' ≡ laid (granted (refused_with answer) (terms_in bytes) []) terms
  pub specials_are : specials' ≡ laid (granted (refused_with answer) (specials_in bytes) []) specials

-- lent memory after building: "places of an output past what is written hold what they held", and a refusal leaves scratch as it was
pub record TermsHanded (answer : Result BuiltSynopsis Refusal) (terms terms' : List Term) (scratch scratch' : List ℤ) : Type 0 where
  pub past : drop (count_of answer) terms' ≡ drop (count_of answer) terms
  pub scratch_refused : 0 < refused_with answer → scratch' ≡ scratch

-- a profile text read into destinations for its setpoints and for its special slots
pub record SetpointsRead (text : List ℕ) (answer : Result TextNumbers Refusal) (setpoints setpoints' : List ℤ) (specials specials' : List SpecialSlot) : Type 0 where
  pub refusal_is : refused_with answer ≡ profile_refusal text (length setpoints) (length specials)
  pub numbers : NumbersOf text answer
  pub setpoints_are : setpoints' ≡ laid (granted (refused_with answer) (setpoints_of text) []) setpoints
  pub specials_are : specials' ≡ laid (granted (refused_with answer) (specials_of text) []) specials
