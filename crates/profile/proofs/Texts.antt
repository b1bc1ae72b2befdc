-- The answer for a whole text, from the answers for its lines.
use mathlib.Core.Path.{◌≡◌, refl, sym, ap, ◌∙◌}
use mathlib.Core.Bool.{false}
use mathlib.Core.List.{List, []}
use Prim.Native.Nat.{ℕ, ◌<◌}
use native.Mathlib.Omega.{arith}
use lib.IntN.{ℤ, pos, nat_abs}
use lib.ListN.{length, drop, length-map, drop_of_length-le}
use Rattle.std.specs.Prelude.{Ok, Err}
use Rattle.limits.specs.Answers.{laid}
use Rattle.limits.specs.Limits.{outside_band}
use Rattle.limits.proofs.Refusals.{passed_last}
use Rattle.refusals.specs.declared.Refusal.{Refusal}
use Rattle.refusals.specs.declared.Refusal.TheVariants.{SlotsBeyond}
use Rattle.refusals.proofs.Rows.{row_nothing}
use Rattle.bands.specs.Bands.{specials_among}
use Rattle.decimal.specs.Answers.{number_or}
use Rattle.profile.specs.Text.{Slot, is_empty, following, line_refusal, value_refusal, band_refusal, head_refusal, setpoints_text, slots_refusal, slots_read, rest_of, band_of, text_refusal, text_slots, setpoints_of, specials_of}
use Rattle.profile.specs.declared.SlotCounts.{SlotCounts}
use Rattle.profile.specs.declared.line.Line.{Line}
use Rattle.profile.specs.Answers.{NumbersOf, TextRead}
use Rattle.profile.specs.Inner.{LineRead, setpoints_in, bands_in, SlotsRead}
use Rattle.profile.proofs.Checks.{line_passes, band_natural}
use Rattle.profile.proofs.Slots.{some_byte, none_read}

-- no numbers beside a refusal
pub refused_numbers : (text : List ℕ) (refusal : Refusal) → NumbersOf text (Err refusal)
refused_numbers text refusal = record {
  rest_is = sym (row_nothing refusal (rest_of text) (pos 0));
  band_is = sym (row_nothing refusal (band_of text) (pos 0));
  slots_is = sym (row_nothing refusal (length (setpoints_of text)) 0);
  specials_is = sym (row_nothing refusal (length (specials_of text)) 0);
}

module _ {text : List ℕ} {rest : Line} (rest-line : LineRead value_refusal text 0 (Ok rest)) where
  second_line : drop rest.next text ≡ following text
  second_line = rest-line.line_is.rest_is

  module _ {band : Line} (band-line : LineRead band_refusal text rest.next (Ok band)) where
    band_right : line_refusal band_refusal (following text) ≡ 0
    band_right = sym (rw second_line at band-line.refusal_is)

    head_right : head_refusal text ≡ 0
    head_right = rw (← rest-line.refusal_is, band_right) refl

    third_line : drop band.next text ≡ setpoints_text text
    third_line = band-line.line_is.rest_is ∙ ap following second_line

    band_is : band.number ≡ band_of text
    band_is = sym (ap (number_or (pos 0)) (rw second_line at band-line.line_is.number_is))

    band_inside : outside_band band.number ≡ false
    band_inside = rw band_is (passed_last 2 (outside_band (band_of text)) (line_passes band_refusal (following text) band_right))

    pub no_third_line : {setpoints : List ℤ} {bands : List ℕ} → length text ≡ band.next → TextRead text (Err SlotsBeyond) setpoints setpoints bands bands
    no_third_line {setpoints} {bands} long =
        let ended : setpoints_text text ≡ [] = sym third_line ∙ drop_of_length-le text {i = band.next} (omega arith) in
        let no_slots : text_slots text ≡ [] = rw (head_right, ended) (none_read (band_of text) 512) in
        record {
          refusal_is = rw (head_right, ended) refl;
          numbers = refused_numbers text SlotsBeyond;
          setpoints_are = sym (ap (λ (slots : List Slot). laid (setpoints_in slots) setpoints) no_slots);
          bands_are = sym (ap (λ (slots : List Slot). laid (bands_in slots) bands) no_slots);
        }

    module _ (more : band.next < length text) where
      common_is : pos (nat_abs band.number) ≡ band_of text
      common_is = band_natural band.number band_inside ∙ band_is

      all_lines : text_refusal text ≡ slots_refusal (pos (nat_abs band.number)) 512 (drop band.next text)
      all_lines = rw (head_right, sym (ap is_empty third_line) ∙ some_byte text band.next more, common_is, third_line) refl

      all_slots : text_slots text ≡ slots_read (pos (nat_abs band.number)) 512 (drop band.next text)
      all_slots = rw (head_right, common_is, third_line)

      pub slot_wrong : {refusal : Refusal} {setpoints setpoints' : List ℤ} {bands bands' : List ℕ}
          → SlotsRead (nat_abs band.number) text band.next (Err refusal) setpoints setpoints' bands bands' → TextRead text (Err refusal) setpoints setpoints' bands bands'
      slot_wrong {refusal} lines = record {
        refusal_is = lines.refusal_is ∙ sym all_lines;
        numbers = refused_numbers text refusal;
        setpoints_are = rw all_slots lines.setpoints_are;
        bands_are = rw all_slots lines.bands_are;
      }

      pub all_right : {counts : SlotCounts} {setpoints setpoints' : List ℤ} {bands bands' : List ℕ}
          → SlotsRead (nat_abs band.number) text band.next (Ok counts) setpoints setpoints' bands bands'
          → TextRead text (Ok (record { rest = rest.number; band = band.number; slots = counts.count; specials = counts.specials })) setpoints setpoints' bands bands'
      all_right {counts} lines = record {
        refusal_is = lines.refusal_is ∙ sym all_lines;
        numbers = record {
          rest_is = sym (ap (number_or (pos 0)) rest-line.line_is.number_is);
          band_is = band_is;
          slots_is = lines.counts_are.count_is ∙ sym (length-map (text_slots text) (λ (slot : Slot). slot.setpoint) ∙ ap length all_slots);
          specials_is =
              lines.counts_are.specials_is
              ∙ sym (ap (λ (slots : List Slot). length (specials_among (nat_abs (band_of text)) (bands_in slots))) all_slots ∙ rw band_is);
        };
        setpoints_are = rw all_slots lines.setpoints_are;
        bands_are = rw all_slots lines.bands_are;
      }
