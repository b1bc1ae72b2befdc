-- The answer of reading a record. For the auditor.
use Rattle.std.specs.Prelude.{◌≡◌, List, [], ℕ, ℤ, pos, Result, length}
use Rattle.limits.specs.Answers.{granted, laid}
use Rattle.bands.specs.Bands.{slot_numbers_of, own_bands_of}
use Rattle.histogram.specs.Terms.{nodes_of, values_of}
use Rattle.record.specs.Record.{slots_in, band_in, rest_in, count_in, terms_in, special_count_in, specials_in}
use Rattle.record.specs.Answers.{reading_refusal}
use Rattle.refusals.specs.declared.Refusal.{Refusal}
use Rattle.refusals.specs.Answers.{refused_with, answered}
use Rattle.record_read.specs.declared.Header.{Header}

-- "Every refusal returns its number with 0 for all other results"
abbrev pub no_header : Header
no_header = record { slots = 0; band = pos 0; rest = pos 0; count = 0; specials = 0 }

-- the header of a record by the refusal returned with it
pub record HeaderOf (bytes : List ℕ) (answer : Result Header Refusal) : Type 0 where
  pub slots_is : (answered no_header answer).slots ≡ granted (refused_with answer) (slots_in bytes) 0
  pub band_is : (answered no_header answer).band ≡ granted (refused_with answer) (pos (band_in bytes)) (pos 0)
  pub rest_is : (answered no_header answer).rest ≡ granted (refused_with answer) (rest_in bytes) (pos 0)
  pub count_is : (answered no_header answer).count ≡ granted (refused_with answer) (count_in bytes) 0
  pub specials_is : (answered no_header answer).specials ≡ granted (refused_with answer) (special_count_in bytes) 0

-- a record read into destinations for the nodes and the values of its terms, and for the slots and the bands of its special slots
pub record RecordRead (bytes : List ℕ) (answer : Result Header Refusal) (nodes nodes' : List ℕ) (values values' : List ℤ) (specials specials' own own' : List ℕ) : Type 0 where
  pub refusal_is : refused_with answer ≡ reading_refusal bytes (length nodes) (length specials)
  pub header : HeaderOf bytes answer
  pub nodes_are : nodes' ≡ laid (granted (refused_with answer) (nodes_of (terms_in bytes)) []) nodes
  pub values_are : values' ≡ laid (granted (refused_with answer) (values_of (terms_in bytes)) []) values
  pub specials_are : specials' ≡ laid (granted (refused_with answer) (slot_numbers_of (specials_in bytes)) []) specials
  pub own_are : own' ≡ laid (granted (refused_with answer) (own_bands_of (specials_in bytes)) []) own
