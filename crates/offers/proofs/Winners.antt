-- What a buffer offers, and what the winner is, in the words of `specs/Plainly.antt`.
use mathlib.Core.Path.{◌≡◌, refl, sym, subst, ◌∙◌}
use mathlib.Core.Bool.{Bool, true, false, cond, ◌&&◌, ◌||◌}
use mathlib.Core.List.{List}
use Prim.Native.Nat.{ℕ, zero, suc, ◌+◌, ◌*◌, ◌/◌, ◌≤◌}
use native.Mathlib.Omega.{arith}
use lib.Dec.{leb, ltb, eqb}
use lib.Ieee.Bits.{is_true}
use lib.IntN.{pos}
use lib.ListN.{length}
use lib.Seq.{length-take-le}
use borrow.Author.Tests.{ltb-true, lt-ltb, le-ltb, leb-true, le-leb, eqb-true, eq-eqb}
use Rattle.limits.proofs.Tests.{both_hold}
use Rattle.profile.specs.Text.{text_refusal, rest_of, band_of, setpoints_of, bands_of}
use Rattle.record.specs.Record.{special_layout, special_count_width, terms_end, version_in, slots_in, band_in, rest_in, count_in, terms_in, special_count_in, bands_in}
use Rattle.record.specs.Answers.{record_refusal}
use Rattle.record.proofs.Bounds.{few_terms, few_specials}
use Rattle.bands.specs.Bands.{same_bands}
use Rattle.bands.proofs.Same.{same_equal, equal_same}
use Rattle.record.specs.Layout.{layout_width}
use Rattle.record.proofs.Sound.{sound}
use Rattle.histogram.proofs.Kept.{kept_keeps, keeps_kept}
use Rattle.offers.specs.declared.Candidate.{Candidate}
use Rattle.std.specs.Prelude.{Option, None, Some}
use Rattle.offers.specs.declared.Winner.{Winner}
use Rattle.offers.specs.declared.Winner.TheVariants.{Neither, First, Second}
use Rattle.offers.specs.Offers.{record_end, has_record, record_of, is_for, is_candidate, offer_of, beats, winner}
use Rattle.offers.specs.Plainly.{HasCandidate, margin_of, Beats, fewer_terms, greater_margin, NoCandidate}
use Rattle.offers.proofs.Numbers.{is_same, same_is}
use Rattle.offers.proofs.Bands.{bands_then_specials, specials_then_bands}

-- a buffer has a candidate exactly where it passes this test
abbrev passes : List ℕ → List ℕ → Bool
passes text buffer = has_record buffer && is_candidate (setpoints_of text) (rest_of text) (band_of text) (bands_of text) (record_of buffer)

module _ (text buffer : List ℕ) where
  abbrev bytes : List ℕ
  bytes = record_of buffer

  has_candidate : text_refusal text ≡ 0 → passes text buffer ≡ true → HasCandidate text buffer
  has_candidate right all =
      let both = both_hold (has_record buffer) _ all in
      let ends = both_hold (leb 7 (length buffer)) _ both.0 in
      let judged = both_hold (eqb (record_refusal bytes) 0 && is_for (setpoints_of text) (rest_of text) (band_of text) (bands_of text) bytes) _ both.1 in
      let fields = both_hold (eqb (record_refusal bytes) 0) _ judged.0 in
      let owns = both_hold (eqb (slots_in bytes) (length (setpoints_of text)) && _ && _) _ fields.1 in
      let rests = both_hold (eqb (slots_in bytes) (length (setpoints_of text)) && _) _ owns.0 in
      let bands = both_hold (eqb (slots_in bytes) (length (setpoints_of text))) _ rests.0 in
      let band_same = same_is (pos (band_in bytes)) (band_of text) bands.1 in
      let record-reads = eqb-true (record_refusal bytes) 0 fields.0 in
      record {
        text_right = right;
        counted = leb-true 7 (length buffer) ends.0;
        ended = leb-true (record_end buffer) (length buffer) ends.1;
        reads = record-reads;
        same_length = eqb-true (slots_in bytes) (length (setpoints_of text)) bands.0;
        same_band = band_same;
        same_rest = same_is (rest_in bytes) (rest_of text) rests.1;
        same_specials = bands_then_specials text bytes band_same (sound bytes record-reads).specials_right_lem (same_equal (bands_in bytes) (bands_of text) (rw owns.1 tt));
        is_kept = kept_keeps (setpoints_of text) (rest_in bytes) (terms_in bytes) (bands_in bytes) judged.1;
      }

  candidate_passes : HasCandidate text buffer → passes text buffer ≡ true
  candidate_passes it =
      rw (
        le-leb 7 (length buffer) it.counted,
        le-leb (record_end buffer) (length buffer) it.ended,
        eq-eqb (record_refusal bytes) 0 it.reads,
        eq-eqb (slots_in bytes) (length (setpoints_of text)) it.same_length,
        is_same (pos (band_in bytes)) (band_of text) it.same_band,
        is_same (rest_in bytes) (rest_of text) it.same_rest,
        is_true (same_bands (bands_in bytes) (bands_of text)) (equal_same (bands_in bytes) (bands_of text) (specials_then_bands text bytes it.same_band it.same_length it.same_specials)),
        keeps_kept (setpoints_of text) (rest_in bytes) (terms_in bytes) (bands_in bytes) it.is_kept,
      )

  -- what the buffer offers
  abbrev offer : Option Candidate
  offer = offer_of (setpoints_of text) (rest_of text) (band_of text) (bands_of text) buffer

  -- what it offers where it has a candidate
  abbrev offered : Candidate
  offered = record { size = record_end buffer; terms = count_in bytes; margin = margin_of text buffer }

  data Offered : Type 0 where
    none : offer ≡ None → (HasCandidate text buffer → ⊥) → Offered
    some : offer ≡ Some offered → HasCandidate text buffer → Offered

  offers : text_refusal text ≡ 0 → Offered
  offers right = by_tests (has_record buffer) (is_candidate (setpoints_of text) (rest_of text) (band_of text) (bands_of text) bytes) refl refl
    where
      by_tests : (there candidate : Bool) → has_record buffer ≡ there → is_candidate (setpoints_of text) (rest_of text) (band_of text) (bands_of text) bytes ≡ candidate → Offered
      by_tests false candidate is judged = none (rw is) (λ it. absurd (mathlib.Core.Bool.false≢true (sym (rw is) ∙ candidate_passes it)))
      by_tests true false is judged = none (rw (is, judged)) (λ it. absurd (mathlib.Core.Bool.false≢true (sym (rw (is, judged)) ∙ candidate_passes it)))
      by_tests true true is judged =
          let it = has_candidate right (rw (is, judged)) in
          some (rw (is, judged, length-take-le (record_end buffer) buffer it.ended)) it

-- ---- which of two candidates is better

module _ (text one other : List ℕ) where
  test_beats : beats (offered text one) (offered text other) ≡ true → Beats text one other
  test_beats test = by_terms (ltb (count_in (record_of one)) (count_in (record_of other))) refl test
    where
      by_terms : (fewer : Bool) → ltb (count_in (record_of one)) (count_in (record_of other)) ≡ fewer
          → (fewer || (eqb (count_in (record_of one)) (count_in (record_of other)) && ltb (margin_of text other) (margin_of text one))) ≡ true → Beats text one other
      by_terms true fewer test = fewer_terms (ltb-true (count_in (record_of one)) (count_in (record_of other)) fewer)
      by_terms false fewer test =
          let both = both_hold (eqb (count_in (record_of one)) (count_in (record_of other))) _ test in
          greater_margin (eqb-true (count_in (record_of one)) (count_in (record_of other)) both.0) (ltb-true (margin_of text other) (margin_of text one) both.1)

  beats_test : Beats text one other → beats (offered text one) (offered text other) ≡ true
  beats_test (fewer_terms fewer) = rw (lt-ltb (count_in (record_of one)) (count_in (record_of other)) fewer)
  beats_test (greater_margin same greater) =
      rw (
        le-ltb (count_in (record_of one)) (count_in (record_of other)) (omega arith),
        eq-eqb (count_in (record_of one)) (count_in (record_of other)) same,
        lt-ltb (margin_of text other) (margin_of text one) greater,
      )

-- ---- the winner

-- a record ends within 6,530 bytes, whatever its counts
end_bound : (buffer : List ℕ) → record_end buffer ≤ 6530
end_bound buffer = by_version (eqb (version_in buffer) 2)
  where
    by_version : (second : Bool) → (terms_end (count_in buffer) + cond second (special_count_width + layout_width special_layout * special_count_in buffer) 0 + 7) / 8 ≤ 6530
    by_version true = omega (arith, few_terms buffer, few_specials buffer)
    by_version false = omega (arith, few_terms buffer)

-- so many bytes lie in a buffer, and are no more than the longest record's
pub record Within (size : ℕ) (buffer : List ℕ) : Type 0 where
  pub inside : size ≤ length buffer
  pub few : size ≤ 6530

module _ (text first second : List ℕ) where
  pub data Won : Type 0 where
    neither_won : winner text first second ≡ Neither → NoCandidate text first second → Won
    first_won : winner text first second ≡ First (record_end first) → HasCandidate text first → (HasCandidate text second → Beats text second first → ⊥) → Won
    second_won : winner text first second ≡ Second (record_end second) → HasCandidate text second → (HasCandidate text first → Beats text second first) → Won

  pub won : Won
  won = by_text (text_refusal text) refl
    where
      by_offers : text_refusal text ≡ 0 → Offered text first → Offered text second → Won
      by_offers right (none no-first not_first) (none no_second not-second) =
          neither_won (rw (right, no-first, no_second)) (record { first_none = not_first; second_none = not-second })
      by_offers right (none no-first not_first) (some a_second is-second) = second_won (rw (right, no-first, a_second)) is-second (λ it. absurd (not_first it))
      by_offers right (some a_first is-first) (none no_second not-second) = first_won (rw (right, a_first, no_second)) is-first (λ it wins. not-second it)
      by_offers right (some a_first is-first) (some a_second is-second) = by_test (beats (offered text second) (offered text first)) refl
        where
          by_test : (wins : Bool) → beats (offered text second) (offered text first) ≡ wins → Won
          by_test true wins = second_won (rw (right, a_first, a_second, wins)) is-second (λ _. test_beats text second first wins)
          by_test false wins =
              first_won (rw (right, a_first, a_second, wins)) is-first (λ _ beaten. absurd (mathlib.Core.Bool.false≢true (sym wins ∙ beats_test text second first beaten)))

      by_text : (refusal : ℕ) → text_refusal text ≡ refusal → Won
      by_text zero right = by_offers right (offers text first right) (offers text second right)
      by_text (suc refusal) wrong =
          let refused : (buffer : List ℕ) → HasCandidate text buffer → ⊥ = λ buffer it. absurd (omega (arith, wrong, it.text_right)) in
          neither_won (rw wrong) (record { first_none = refused first; second_none = refused second })

  -- the winner's bytes lie in its buffer, and are no more than the longest record's
  abbrev WinnerWithin : Winner → Type 0
  WinnerWithin Neither = Unit
  WinnerWithin (First size) = Within size first
  WinnerWithin (Second size) = Within size second

  winner_within : WinnerWithin (winner text first second)
  winner_within = by_winner won
    where
      of_candidate : {buffer : List ℕ} → HasCandidate text buffer → Within (record_end buffer) buffer
      of_candidate {buffer} candidate = record { inside = candidate.ended; few = end_bound buffer }

      by_winner : Won → WinnerWithin (winner text first second)
      by_winner (neither_won is no-candidate) = subst WinnerWithin (sym is) tt
      by_winner (first_won is candidate not_beaten) = subst WinnerWithin (sym is) (of_candidate candidate)
      by_winner (second_won is candidate wins) = subst WinnerWithin (sym is) (of_candidate candidate)

  pub first_within : {size : ℕ} → winner text first second ≡ First size → Within size first
  first_within is = subst WinnerWithin is winner_within

  pub second_within : {size : ℕ} → winner text first second ≡ Second size → Within size second
  second_within is = subst WinnerWithin is winner_within
