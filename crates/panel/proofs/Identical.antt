-- "Two panels fed one profile should send identical bytes": document 02, F-5. What a call writes is the profile's record, whatever the destination held.
use mathlib.Core.Path.{◌≡◌, refl, sym, ◌∙◌}
use mathlib.Core.List.{List}
use Prim.Native.Nat.{ℕ, ◌/◌, ◌%◌}
use native.Mathlib.Omega.{arith}
use lib.ListN.{length, take}
use Rattle.limits.proofs.Laying.{front_of}
use Rattle.limits.proofs.Refusals.{none_of_two}
use Rattle.profile.specs.Text.{text_refusal, rest_of, band_of, setpoints_of, bands_of}
use Rattle.bits.proofs.Packing.{length_packed}
use Rattle.histogram.specs.Errors.{greatest_error}
use Rattle.panel.specs.Results.{packed_fields, synopsis_of, text_record, text_record_length, text_to_record_refusal, TextToRecord}
use Rattle.panel.proofs.Longest.{longest_record}

-- how many bytes were written, by a result's second field
abbrev pub bytes_written : ℕ → ℕ
bytes_written number = number / 65536 % 65536

-- two texts of one profile: the same setpoints, rest value, common band and band in each slot
pub record OneProfile (text other : List ℕ) : Type 0 where
  pub setpoints_same : setpoints_of text ≡ setpoints_of other
  pub rest_same : rest_of text ≡ rest_of other
  pub band_same : band_of text ≡ band_of other
  pub bands_same : bands_of text ≡ bands_of other

module _ {text before after : List ℕ} {number : ℕ} (answer : TextToRecord text before after number) (right : text_to_record_refusal text (length before) ≡ 0) where
  number_is : number ≡ packed_fields 0 (text_record_length text) (length (synopsis_of text)) (greatest_error (setpoints_of text) (rest_of text) (synopsis_of text))
  number_is = rw right at answer.result_is

  bytes_are : bytes_written number ≡ text_record_length text
  bytes_are = omega (arith, number_is, longest_record text (none_of_two (text_refusal text) _ right).0)

  -- what a call that is not refused has written is the text's record
  written_is_record : take (bytes_written number) after ≡ text_record text
  written_is_record = rw (answer.destination_is, right) (front_of (text_record text) before (bytes_written number) (length_packed _ _ ∙ sym bytes_are))

module _ {text other before after before' after' : List ℕ} {number number' : ℕ} (answer : TextToRecord text before after number) (another : TextToRecord other before' after' number')
    (right : text_to_record_refusal text (length before) ≡ 0) (other-right : text_to_record_refusal other (length before') ≡ 0) where
  -- two calls on texts of one profile, where neither is refused, give the same result and write identical bytes
  pub identical_records : OneProfile text other → (number ≡ number') × (take (bytes_written number) after ≡ take (bytes_written number') after')
  identical_records same = (
    number_is answer right ∙ rw (same.setpoints_same, same.bands_same, same.rest_same, same.band_same) (sym (number_is another other-right)),
    written_is_record answer right ∙ rw (same.setpoints_same, same.bands_same, same.rest_same, same.band_same) (sym (written_is_record another other-right)),
  )

-- and so do two calls on one text
pub identical_bytes : {text before after before' after' : List ℕ} {number number' : ℕ} → TextToRecord text before after number → TextToRecord text before' after' number'
    → text_to_record_refusal text (length before) ≡ 0 → text_to_record_refusal text (length before') ≡ 0
    → (number ≡ number') × (take (bytes_written number) after ≡ take (bytes_written number') after')
identical_bytes answer another right other-right =
    identical_records answer another right other-right (record { setpoints_same = refl; rest_same = refl; band_same = refl; bands_same = refl })
