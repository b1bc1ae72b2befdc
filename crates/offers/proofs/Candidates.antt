-- What a record and a buffer offer, by the ways in which they are judged.
use mathlib.Core.Path.{◌≡◌, sym, ap, ◌∙◌}
use mathlib.Core.Bool.{Bool, true, false, ◌&&◌}
use mathlib.Core.List.{List}
use Prim.Native.Nat.{ℕ, ◌≤◌, ◌<◌}
use native.Mathlib.Omega.{arith}
use lib.Dec.{eqb}
use lib.IntN.{ℤ, pos, nat_abs}
use lib.ListN.{length, take}
use borrow.Author.Tests.{eqb-true, ne_eqb, le-leb, lt-leb}
use Rattle.limits.proofs.Tests.{both_hold}
use Rattle.bands.specs.declared.SpecialSlot.{SpecialSlot}
use Rattle.bands.specs.Bands.{specials_among, same_bands}
use Rattle.bands.proofs.Bands.{length_slot_bands}
use Rattle.std.specs.Prelude.{Result, Ok, Err, None, Some, is_ok}
use Rattle.refusals.specs.declared.Refusal.{Refusal}
use Rattle.refusals.proofs.Rows.{row_counts}
use Rattle.verdict.specs.declared.Kept.{Kept}
use Rattle.verdict.specs.declared.Beyond.{Beyond}
use Rattle.verdict.specs.Verdict.{Judged}
use Rattle.record.specs.Record.{slots_in, band_in, rest_in, terms_in, specials_in, bands_in}
use Rattle.record.specs.Answers.{record_refusal}
use Rattle.record_read.specs.declared.Header.{Header}
use Rattle.record_read.specs.Inner.{RoomRead}
use Rattle.record_read.proofs.Accepted as Accepted
use Rattle.record_check.specs.Inner.{room_terms, RecordJudgeable}
use Rattle.record.proofs.Sound.{sound}
use Rattle.record_check.proofs.Checks as Checks
use Rattle.offers.specs.Offers.{record_end, record_of, same_number, candidate_offer, offer_of}
use Rattle.offers.specs.Inner.{Profile, SameCommon, header_is_for}
use Rattle.offers.proofs.Numbers.{same_is}
use Rattle.offers.proofs.Bands.{specials_counted, specials_by_bands}

module _ (profile : List ℤ) (rest band : ℤ) (bands : List ℕ) {bytes : List ℕ} {answer : Result Header Refusal} {nodes nodes' : List ℕ} {values values' : List ℤ} {room room' : List ℕ}
    (read : RoomRead bytes answer nodes nodes' values values' room room') where
  pub refused : {refusal : Refusal} → answer ≡ Err refusal → None ≡ candidate_offer profile rest band bands bytes
  refused {refusal} wrong =
      let is = rw wrong at read.refusal_is in
      sym (rw (ne_eqb (record_refusal bytes) 0 (λ none. omega (arith, is, row_counts refusal))))

  module _ {header : Header} (right : answer ≡ Ok header) where
    -- the header's test, of the record
    abbrev is_for_bytes : Bool
    is_for_bytes = eqb (slots_in bytes) (length profile) && same_number (pos (band_in bytes)) band && same_number (rest_in bytes) rest

    of_record : header_is_for header (length profile) rest band ≡ is_for_bytes
    of_record = rw (Accepted.slots_are read right, Accepted.band_is read right, Accepted.rest_is read right)

    pub for_another : header_is_for header (length profile) rest band ≡ false → None ≡ candidate_offer profile rest band bands bytes
    for_another other = sym (rw (Accepted.record_right read right, sym of_record ∙ other))

    module _ (own : header_is_for header (length profile) rest band ≡ true) where
      fields : (eqb header.slots (length profile) ≡ true) × (same_number header.band band ≡ true)
      fields =
          both_hold (eqb header.slots (length profile)) (same_number header.band band)
          (both_hold (eqb header.slots (length profile) && same_number header.band band) (same_number header.rest rest) own).0

      same : header.slots ≡ length profile
      same = eqb-true header.slots (length profile) fields.0

      -- the bands in the room are the record's
      pub room_bands : take header.slots room' ≡ bands_in bytes
      room_bands = ap (λ (n : ℕ). take n room') same ∙ Checks.bands_are profile read right same

      -- as many, and by the same common band
      pub same_common : {specials : ℕ} → Profile profile bands band specials → SameCommon (bands_in bytes) header.specials bands specials
      same_common asked =
          let band_same = same_is (pos (band_in bytes)) band (rw (Accepted.band_is read right) at fields.1) in
          record {
            common = band_in bytes;
            same_length = length_slot_bands (slots_in bytes) (band_in bytes) (specials_in bytes) ∙ sym (Accepted.slots_are read right) ∙ same ∙ sym asked.each_band;
            specials_are =
                Accepted.specials_counted read right ∙ sym (specials_counted bytes)
                ∙ sym (ap (λ (list : List SpecialSlot). length list) (specials_by_bands bytes (sound bytes (Accepted.record_right read right)).specials_right_lem));
            those_are = asked.specials_are ∙ ap (λ (common : ℕ). length (specials_among common bands)) (sym (ap nat_abs band_same));
          }

      pub other_bands : same_bands (bands_in bytes) bands ≡ false → None ≡ candidate_offer profile rest band bands bytes
      other_bands differ = sym (rw (Accepted.record_right read right, sym of_record ∙ own, differ))

      pub judgeable : {specials : ℕ} → Profile profile bands band specials → RecordJudgeable profile header nodes' values' room'
      judgeable asked = Checks.judgeable profile read right same asked.slots_inside asked.setpoints_near

      module _ (own_bands : same_bands (bands_in bytes) bands ≡ true) {verdict : Result Kept Beyond}
          (judged : Judged profile header.rest (room_terms header nodes' values') (take (length profile) room') verdict) where
        of_bytes : Judged profile (rest_in bytes) (terms_in bytes) (bands_in bytes) verdict
        of_bytes = Checks.judged profile read right same judged

        pub not_kept : is_ok verdict ≡ false → None ≡ candidate_offer profile rest band bands bytes
        not_kept fails = sym (rw (Accepted.record_right read right, sym of_record ∙ own, own_bands, sym of_bytes.kept_is ∙ fails))

        pub candidate : {kept : Kept} → verdict ≡ Ok kept → Some (record { size = length bytes; terms = header.count; margin = kept.margin }) ≡ candidate_offer profile rest band bands bytes
        candidate holds =
            let judged = rw holds at of_bytes in
            rw (Accepted.count_is read right, judged.margin_is)
            (sym (rw (Accepted.record_right read right, sym of_record ∙ own, own_bands, sym judged.kept_is)))

-- a buffer offers nothing without a whole record at its front, and else what that record does
module _ (profile : List ℤ) (rest band : ℤ) (bands buffer : List ℕ) where
  pub no_count : length buffer < 7 → None ≡ offer_of profile rest band bands buffer
  no_count short = sym (rw (lt-leb 7 (length buffer) short))

  pub cut_short : 7 ≤ length buffer → length buffer < record_end buffer → None ≡ offer_of profile rest band bands buffer
  cut_short counted short = sym (rw (le-leb 7 (length buffer) counted, lt-leb (record_end buffer) (length buffer) short))

  pub whole : 7 ≤ length buffer → record_end buffer ≤ length buffer → candidate_offer profile rest band bands (record_of buffer) ≡ offer_of profile rest band bands buffer
  whole counted ends = sym (rw (le-leb 7 (length buffer) counted, le-leb (record_end buffer) (length buffer) ends))
