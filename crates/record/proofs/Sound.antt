-- A record that is not refused: its rest value, its band, its terms and its special slots are right.
use mathlib.Core.Path.{◌≡◌}
use mathlib.Core.Bool.{true, false, not, ◌&&◌}
use mathlib.Core.List.{List}
use Prim.Native.Nat.{ℕ}
use lib.Dec.{T, eqb, ltb}
use borrow.Author.Tests.{not-false}
use mir.Facts.{and_yes}
use Rattle.limits.specs.Answers.{◌when◌, ◌then◌}
use Rattle.limits.specs.Limits.{beyond}
use Rattle.limits.proofs.Refusals.{none_of_two, passed, passed_last}
use Rattle.bands.specs.Bands.{right_specials}
use Rattle.histogram.specs.Terms.{valid}
use Rattle.record.specs.Record.{version_in, slots_in, band_in, rest_in, terms_in, special_count_in, specials_in, well_formed, specials_right}
use Rattle.record.specs.Answers.{header_refusal, record_refusal}

pub record Sound (bytes : List ℕ) : Type 0 where
  pub rest_near : beyond 20000 (rest_in bytes) ≡ false
  pub band_inside : ltb 40000 (band_in bytes) ≡ false
  pub terms_valid : valid (slots_in bytes) (terms_in bytes) ≡ true
  pub specials_right_lem : T (right_specials (slots_in bytes) (band_in bytes) (specials_in bytes))

pub sound : (bytes : List ℕ) → record_refusal bytes ≡ 0 → Sound bytes
sound bytes none =
    let parts = none_of_two (header_refusal bytes) (8 when not (valid (slots_in bytes) (terms_in bytes)) then 11 when not (specials_right bytes)) none in
    let seven = passed 6 (not (well_formed bytes)) (2 when beyond 20000 (rest_in bytes) then 3 when ltb 40000 (band_in bytes)) parts.0 in
    let two = passed 1 (beyond 20000 (rest_in bytes)) (3 when ltb 40000 (band_in bytes)) seven.1 in
    let eight = passed 7 (not (valid (slots_in bytes) (terms_in bytes))) (11 when not (specials_right bytes)) parts.1 in
    let eleven = not-false (specials_right bytes) (passed_last 10 (not (specials_right bytes)) eight.1) in
    record {
      rest_near = two.0;
      band_inside = passed_last 2 (ltb 40000 (band_in bytes)) two.1;
      terms_valid = not-false (valid (slots_in bytes) (terms_in bytes)) eight.0;
      specials_right_lem = (and_yes (not (eqb (version_in bytes) 2 && eqb (special_count_in bytes) 0)) (right_specials (slots_in bytes) (band_in bytes) (specials_in bytes)) (rw eleven tt)).1;
    }
