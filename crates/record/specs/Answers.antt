-- What is refused when a record is written and when one is read. For the auditor.
use Rattle.std.specs.Prelude.{not, ◌||◌, List, ℕ, ltb, ℤ, nat_abs, length}
use Rattle.limits.specs.Answers.{◌when◌, ◌then◌}
use Rattle.limits.specs.Limits.{beyond, outside_band, outside_slots}
use Rattle.bands.specs.declared.SpecialSlot.{SpecialSlot}
use Rattle.bands.specs.Bands.{right_specials}
use Rattle.histogram.specs.declared.Term.{Term}
use Rattle.histogram.specs.Terms.{valid}
use Rattle.record.specs.Record.{record_length, slots_in, band_in, rest_in, count_in, terms_in, special_count_in, well_formed, specials_right}

-- what is wrong with a header, terms and special slots to be written: 4, 2, 3, 8, 11
abbrev pub packing_refusal : ℕ → ℤ → ℤ → List Term → List SpecialSlot → ℕ
packing_refusal n band rest terms specials =
    4 when outside_slots n then 2 when beyond 20000 rest then 3 when outside_band band then 8 when not (valid n terms) then 11 when not (right_specials n (nat_abs band) specials)

-- "Writing: 4, 2, 3, 8", 11, "then 6 if shorter than the record"
abbrev pub writing_refusal : ℕ → ℤ → ℤ → List Term → List SpecialSlot → ℕ → ℕ
writing_refusal n band rest terms specials places =
    packing_refusal n band rest terms specials then 6 when ltb places (record_length (length terms) (length specials))

-- what is wrong with a record before its terms are looked at: 7, 2, 3
abbrev pub header_refusal : List ℕ → ℕ
header_refusal bytes = 7 when not (well_formed bytes) then 2 when beyond 20000 (rest_in bytes) then 3 when ltb 40000 (band_in bytes)

-- what is wrong with a record: 7, 2, 3, 8, 11
abbrev pub record_refusal : List ℕ → ℕ
record_refusal bytes = header_refusal bytes then 8 when not (valid (slots_in bytes) (terms_in bytes)) then 11 when not (specials_right bytes)

-- "Record reading: 7, 2, 3, 8", 11, "then 6 if the destination is shorter than t"; "6 counts" the special slots' "destination too"
abbrev pub reading_refusal : List ℕ → ℕ → ℕ → ℕ
reading_refusal bytes places specialPlaces = record_refusal bytes then 6 when (ltb places (count_in bytes) || ltb specialPlaces (special_count_in bytes))
