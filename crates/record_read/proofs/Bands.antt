-- The bands that a record's slots go by, over the common one in every place: in version 1 they are that, in version 2 the special slots decide.
use mathlib.Core.Path.{◌≡◌, refl, sym, ap, ◌∙◌}
use mathlib.Core.Bool.{Bool, true, false, not, ◌&&◌, false≢true}
use mathlib.Core.List.{List, []}
use Prim.Native.Nat.{ℕ, ◌+◌, ◌≤◌}
use native.Mathlib.Omega.{arith}
use lib.Dec.{eqb}
use lib.ListN.{length}
use borrow.Author.Tests.{eqb-true, eq-eqb, ne_eqb}
use Rattle.bands.specs.Bands.{right_from, right_specials, slot_bands}
use Rattle.bands.proofs.Put.{length_filled, put_over}
use Rattle.record.specs.Layout.{entries_from}
use Rattle.record.specs.Record.{special_count_width, terms_end, version_in, slots_in, band_in, count_in, special_count_in, specials_in, known_version, specials_right}
use Rattle.record.proofs.Bounds.{few_slots, few_terms, few_specials}
use Rattle.record.proofs.Ends.{end_of_second}
use Rattle.record.proofs.RoundTrips.{WellFormed, well_formed_parts}
use Rattle.record_read.specs.Inner.{BandsFit, BandsRead, specials_at, WalkFits, WalkRead}

-- a known version that is not 1 is 2
second_version : (version : ℕ) → known_version version ≡ true → (version ≡ 1 → ⊥) → version ≡ 2
second_version version known not_first = by_test (eqb version 2) refl
  where
    by_test : (second : Bool) → eqb version 2 ≡ second → version ≡ 2
    by_test true is = eqb-true version 2 is
    by_test false is = absurd (false≢true (sym (rw (ne_eqb version 1 not_first) is) ∙ known))

none_in_first : (bytes : List ℕ) → version_in bytes ≡ 1 → specials_in bytes ≡ []
unfolding entries_from
none_in_first bytes first = rw first

-- row 11 by its two tests
by_tests : (bytes : List ℕ) {second none : Bool} → eqb (version_in bytes) 2 ≡ second → eqb (special_count_in bytes) 0 ≡ none
    → specials_right bytes ≡ (not (second && none) && right_specials (slots_in bytes) (band_in bytes) (specials_in bytes))
by_tests bytes second_is none_is = λ i. not (second_is i && none_is i) && right_specials (slots_in bytes) (band_in bytes) (specials_in bytes)

module _ {bytes : List ℕ} {terms specials common : ℕ} {bands : List ℕ} (fits : BandsFit bytes terms specials common bands) where
  parts : WellFormed bytes
  parts = well_formed_parts bytes fits.form_is_right

  pub few : terms ≤ 1023
  few = rw fits.terms_is (few_terms bytes)

  module _ {filled : List ℕ} (is-filled : filled ≡ slot_bands (length bands) common []) where
    pub first_right : version_in bytes ≡ 1 → BandsRead bytes true filled
    unfolding right_from
    first_right first =
        let none : specials_in bytes ≡ [] = none_in_first bytes first in
        let right : right_specials (slots_in bytes) (band_in bytes) (specials_in bytes) ≡ true = rw none in
        record {
          right_is = sym (by_tests bytes (ne_eqb (version_in bytes) 2 (λ second. omega (arith, first, second))) refl ∙ right);
          bands_are = λ _. is-filled ∙ (λ i. slot_bands (fits.as_many i) (fits.common_is i) (sym none i));
        }

    module _ (not_first : version_in bytes ≡ 1 → ⊥) where
      second : version_in bytes ≡ 2
      second = second_version (version_in bytes) parts.known not_first

      pub walk_fits : (place : ℕ) → place ≡ terms_end terms + special_count_width → WalkFits bytes place specials filled
      walk_fits place is = record {
        few_slots = omega (arith, length_filled (length bands) common is-filled, fits.as_many, few_slots bytes);
        few = rw fits.specials_is (few_specials bytes);
        near = omega (arith, few);
        inside = omega (arith, parts.byte_count, end_of_second (version_in bytes) (count_in bytes) (special_count_in bytes) second, fits.terms_is, fits.specials_is);
      }

      pub by_walk : {place : ℕ} {right : Bool} {bands' : List ℕ} → (specials ≡ 0 → ⊥) → place ≡ terms_end terms + special_count_width
          → WalkRead (specials_at specials place bytes) common right filled bands' → BandsRead bytes right bands'
      by_walk {place} some is walked =
          let place_is : place ≡ terms_end (count_in bytes) + special_count_width = is ∙ ap (λ (count : ℕ). terms_end count + special_count_width) fits.terms_is in
          let same : specials_at specials place bytes ≡ specials_in bytes = λ i. specials_at (fits.specials_is i) (place_is i) bytes in
          let slots_are : length filled ≡ slots_in bytes = length_filled (length bands) common is-filled ∙ fits.as_many in
          record {
            right_is =
                walked.right_is
                ∙ (λ i. right_specials (slots_are i) (fits.common_is i) (same i))
                ∙ sym (by_tests bytes (eq-eqb (version_in bytes) 2 second) (ne_eqb (special_count_in bytes) 0 (λ none. some (fits.specials_is ∙ none))));
            bands_are = λ right. put_over (length bands) common is-filled (walked.put right) ∙ (λ i. slot_bands (fits.as_many i) (fits.common_is i) (same i));
          }
