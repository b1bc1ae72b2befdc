-- Building: document 01, "Building, checking, least band", and demands 1 and 3, as document 02's F-5 and F-6 have it. For the auditor.
-- What a best synopsis is stands in `claims/specs/Best.antt`, and which of several is the first in `claims/specs/First.antt`.
use Rattle.std.specs.Prelude.{◌≡◌, Bool, not, ◌||◌, List, [], ℕ, ◌<◌, ltb, ℤ, nat_abs, length, take, drop, Result}
use Rattle.limits.specs.Answers.{◌when◌, ◌then◌, granted}
use Rattle.limits.specs.Limits.{beyond, outside_band, outside_slots, any_beyond}
use Rattle.refusals.specs.declared.Refusal.{Refusal}
use Rattle.refusals.specs.Answers.{refused_with, answered}
use Rattle.bands.specs.declared.SpecialSlot.{SpecialSlot}
use Rattle.bands.specs.Bands.{right_specials, slot_bands}
use Rattle.histogram.specs.declared.Term.{Term}
use Rattle.histogram.specs.Tree.{padded}
use Rattle.histogram.specs.Terms.{paired}
use Rattle.histogram.specs.Errors.{greatest_error}
use Rattle.claims.specs.First.{first_synopsis}
use Rattle.build.specs.declared.BuiltSynopsis.{BuiltSynopsis}

-- what is wrong with setpoints and their rest value: 4, then "2 (rest first)"
abbrev pub values_refusal : List ℤ → ℤ → ℕ
values_refusal profile rest = 4 when outside_slots (length profile) then 2 when beyond 20000 rest then 2 when any_beyond profile

-- row 6: "a destination of at least m terms (building only) and 12,288 scratch numbers", whatever n is
abbrev pub destination_short : List ℤ → ℕ → Bool
destination_short profile places = ltb places (padded (length profile))

abbrev pub scratch_short : ℕ → Bool
scratch_short numbers = ltb numbers 12288

-- what is wrong with a common band and special slots for n slots: 3, 11
abbrev pub bands_refusal : ℕ → ℤ → List SpecialSlot → ℕ
bands_refusal n band specials = 3 when outside_band band then 11 when not (right_specials n (nat_abs band) specials)

-- "Building: 4, 2 (rest first), 3", "in building after 3" 11, then "6"
abbrev pub build_refusal : List ℤ → ℤ → ℤ → List SpecialSlot → ℕ → ℕ → ℕ
build_refusal profile rest band specials places numbers =
    values_refusal profile rest
    then bands_refusal (length profile) band specials
    then 6 when (destination_short profile places || scratch_short numbers)

-- "Every refusal returns its number with 0 for all other results"
abbrev pub no_synopsis : BuiltSynopsis
no_synopsis = record { count = 0; error = 0 }

-- how many terms were handed over
abbrev pub count_of : Result BuiltSynopsis Refusal → ℕ
count_of answer = (answered no_synopsis answer).count

-- "the terms, their count and the greatest error": the terms handed over are the first best synopsis for the bands that the slots go by, and none on a refusal
pub record Built (profile : List ℤ) (rest band : ℤ) (specials : List SpecialSlot) (places numbers : ℕ) (answer : Result BuiltSynopsis Refusal) (terms : List Term) : Type 0 where
  pub refusal_is : refused_with answer ≡ build_refusal profile rest band specials places numbers
  pub terms_are : terms ≡ granted (refused_with answer) (first_synopsis profile rest (slot_bands (length profile) (nat_abs band) specials)) []
  pub count_is : count_of answer ≡ length terms
  pub error_is : (answered no_synopsis answer).error ≡ granted (refused_with answer) (greatest_error profile rest terms) 0

-- the terms handed over: the first `count` that two destinations hold, of nodes and of values
abbrev pub handed_over : ℕ → List ℕ → List ℤ → List Term
handed_over count nodes values = paired (take count nodes) (take count values)

-- lent memory: "places of an output past what is written hold what they held", and a refusal leaves scratch as it was
pub record MemoryLeft (answer : Result BuiltSynopsis Refusal) (nodes nodes' : List ℕ) (values values' scratch scratch' : List ℤ) : Type 0 where
  pub nodes_past : drop (count_of answer) nodes' ≡ drop (count_of answer) nodes
  pub values_past : drop (count_of answer) values' ≡ drop (count_of answer) values
  pub scratch_refused : 0 < refused_with answer → scratch' ≡ scratch
