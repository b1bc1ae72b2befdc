-- What inner functions ask and promise. A reader of the promises need not open this file.
use Rattle.std.specs.Prelude.{◌≡◌, List, [], ℕ, ltb, ℤ, length, Result, Ok, Err}
use Rattle.limits.specs.Answers.{◌when◌, granted, laid}
use Rattle.refusals.specs.declared.Refusal.{Refusal}
use Rattle.refusals.specs.Rows.{row}
use Rattle.bands.specs.Bands.{specials_among}
use Rattle.histogram.specs.Errors.{greatest_error}
use Rattle.record.specs.Record.{record_length, record_bytes}
use Rattle.claims.specs.First.{first_synopsis}
use Rattle.panel.specs.declared.Fields.{Fields}
use Rattle.panel.specs.Results.{packed_fields, result}

-- a call's answer in one number: 0 and its fields, or the refusal's number and fields of 0
abbrev pub packed : Result Fields Refusal → ℕ
packed (Ok fields) = packed_fields 0 fields.first fields.second fields.third
packed (Err refusal) = packed_fields (row refusal) 0 0 0

-- the bytes of the record of a profile's first best synopsis, with its special slots by a common band
abbrev pub built_length : List ℤ → List ℕ → ℤ → ℕ → ℕ
built_length profile bands rest common = record_length (length (first_synopsis profile rest bands)) (length (specials_among common bands))

-- that record is written, or refused with 6
pub record RecordBuilt (profile : List ℤ) (bands : List ℕ) (rest : ℤ) (common : ℕ) (before after : List ℕ) (number : ℕ) : Type 0 where
  pub result_is : number
      ≡ result (6 when ltb (length before) (built_length profile bands rest common)) (built_length profile bands rest common) (length (first_synopsis profile rest bands))
      (greatest_error profile rest (first_synopsis profile rest bands))
  pub destination_is : after
      ≡ laid (granted (6 when ltb (length before) (built_length profile bands rest common)) (record_bytes (length profile) common rest (first_synopsis profile rest bands) (specials_among common bands)) []) before
