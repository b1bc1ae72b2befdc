-- A text that is not refused: its slots are 1 to 512, their setpoints lie within ±20,000 and their bands within 0 to 40,000, its rest value and its common band
-- within their limits, and its special slots are right.
use mathlib.Core.Path.{◌≡◌, refl, sym, ap, subst, ◌∙◌}
use mathlib.Core.Bool.{Bool, true, false, cond}
use mathlib.Core.List.{List, ◌∷◌}
use Prim.Native.Nat.{ℕ, zero, suc, ◌≤◌, ◌<◌}
use native.Mathlib.Omega.{arith}
use lib.Dec.{T}
use lib.IntN.{ℤ, nat_abs}
use lib.ListN.{length, get_or, take, length-map}
use borrow.Author.Tests.{ltb-false, le-ltb, ne_eqb}
use mir.Syntax.{w32}
use mir.Val.{SFits}
use Rattle.std.specs.Prelude.{Ok}
use Rattle.limits.specs.Answers.{◌then◌}
use Rattle.limits.specs.Limits.{beyond, outside_band, outside_slots, any_beyond}
use Rattle.limits.proofs.Beyond.{band_accepted}
use Rattle.limits.proofs.Laying.{front_of, room_for}
use Rattle.limits.proofs.Refusals.{none_of_two, passed, passed_last}
use Rattle.limits.proofs.Signed.{fits_32}
use Rattle.bands.specs.Bands.{right_specials}
use Rattle.bands.proofs.Bands.{specials_right_lem}
use Rattle.decimal.specs.Answers.{number_or}
use Rattle.profile.specs.Text.{Slot, line_refusal, value_refusal, band_refusal, is_empty, following, line_slot, no_slot, read_refusal, slot_line_refusal, slots_refusal, slots_read, head_refusal, setpoints_text, text_refusal, rest_of, band_of, text_slots, setpoints_of, bands_of, specials_of}
use Rattle.profile.specs.declared.TextNumbers.{TextNumbers}
use Rattle.profile.specs.Answers.{TextRead}
use Rattle.profile.specs.Inner.{setpoints_in, bands_in}
use Rattle.profile.proofs.Checks.{line_passes, Within, slot_within}

-- what is read of the slots' lines, where none is refused
record Lines (common : ℤ) (room : ℕ) (text : List ℕ) : Type 0 where
  pub near : any_beyond (setpoints_in (slots_read common room text)) ≡ false
  pub inside : (slot : ℕ) → get_or (bands_in (slots_read common room text)) slot 0 ≤ 40000
  pub few : length (slots_read common room text) ≤ room
  pub some_line : is_empty text ≡ false → 0 < room → 1 ≤ length (slots_read common room text)

-- bands of 0 to 40,000, and one more
one_more_inside : (band : ℕ) (bands : List ℕ) → band ≤ 40000 → ((slot : ℕ) → get_or bands slot 0 ≤ 40000) → (slot : ℕ) → get_or (band ∷ bands) slot 0 ≤ 40000
one_more_inside band bands first later zero = first
one_more_inside band bands first later (suc slot) = later slot

lines : (common : ℤ) (room : ℕ) (text : List ℕ) → slots_refusal common room text ≡ 0 → Lines common room text
unfolding slots_refusal slots_read any_beyond
lines common zero text right = record { near = refl; inside = λ slot. omega arith; few = omega arith; some_line = λ some room. absurd (omega arith) }
lines common (suc room) text right = split (is_empty text) refl right (lines common room (following text))
  where
    more : read_refusal slot_line_refusal (line_slot common text) ≡ 0 → Lines common room (following text) → is_empty text ≡ false → Lines common (suc room) text
    more line later is =
        let slot : Slot = number_or no_slot (line_slot common text) in
        let within : Within slot = slot_within (line_slot common text) line in
        record {
          near = rw (is, line, within.setpoint_near) later.near;
          inside = rw (is, line) (one_more_inside (nat_abs slot.band) (bands_in (slots_read common room (following text))) (band_accepted slot.band within.band_inside) later.inside);
          few = rw (is, line) (omega (arith, later.few));
          some_line = λ some inside. rw (is, line) (omega arith);
        }

    split : (empty : Bool) → is_empty text ≡ empty → cond empty 0 (read_refusal slot_line_refusal (line_slot common text) then slots_refusal common room (following text)) ≡ 0
        → (slots_refusal common room (following text) ≡ 0 → Lines common room (following text)) → Lines common (suc room) text
    split true is right later = record { near = rw is; inside = rw is (λ slot. omega arith); few = rw is (omega arith); some_line = λ some inside. absurd (subst T (sym is ∙ some) tt) }
    split false is right later =
        let both = none_of_two (read_refusal slot_line_refusal (line_slot common text)) (slots_refusal common room (following text)) right in
        more both.0 (later both.1) is

-- every text has as many bands as setpoints
pub as_many_bands : (text : List ℕ) → length (bands_of text) ≡ length (setpoints_of text)
as_many_bands text =
    length-map (text_slots text) (λ (slot : Slot). nat_abs slot.band) ∙ sym (length-map (text_slots text) (λ (slot : Slot). slot.setpoint))

-- what a text holds that is not refused
pub record Accepted (text : List ℕ) : Type 0 where
  pub slots_inside : outside_slots (length (setpoints_of text)) ≡ false
  pub rest_near : beyond 20000 (rest_of text) ≡ false
  pub setpoints_near : any_beyond (setpoints_of text) ≡ false
  pub band_inside : outside_band (band_of text) ≡ false
  pub bands_inside : (slot : ℕ) → get_or (bands_of text) slot 0 ≤ 40000
  pub specials_right_lem : T (right_specials (length (setpoints_of text)) (nat_abs (band_of text)) (specials_of text))

pub accepted : (text : List ℕ) → text_refusal text ≡ 0 → Accepted text
accepted text right =
    let head = none_of_two (head_refusal text) _ right in
    let first = none_of_two (line_refusal value_refusal text) (line_refusal band_refusal (following text)) head.0 in
    let third = passed 3 (is_empty (setpoints_text text)) _ head.1 in
    let of-lines = lines (band_of text) 512 (setpoints_text text) third.1 in
    let slots_are : text_slots text ≡ slots_read (band_of text) 512 (setpoints_text text) = rw head.0 in
    let some : 1 ≤ length (slots_read (band_of text) 512 (setpoints_text text)) = of-lines.some_line third.0 (omega arith) in
    let counted : length (setpoints_of text) ≡ length (slots_read (band_of text) 512 (setpoints_text text)) =
    length-map (text_slots text) (λ (slot : Slot). slot.setpoint) ∙ ap length slots_are in
    let inside : (slot : ℕ) → get_or (bands_of text) slot 0 ≤ 40000 = rw slots_are of-lines.inside in
    record {
      slots_inside =
          rw (
            counted,
            ne_eqb (length (slots_read (band_of text) 512 (setpoints_text text))) 0 (λ none. omega arith),
            le-ltb 512 (length (slots_read (band_of text) 512 (setpoints_text text))) of-lines.few,
          );
      rest_near = passed_last 1 (beyond 20000 (rest_of text)) (line_passes value_refusal text first.0);
      setpoints_near = rw slots_are of-lines.near;
      band_inside = passed_last 2 (outside_band (band_of text)) (line_passes band_refusal (following text) first.1);
      bands_inside = inside;
      specials_right_lem = rw (← as_many_bands text) (specials_right_lem (nat_abs (band_of text)) (bands_of text) inside);
    }

-- a text that was read and not refused: its numbers, and its setpoints and bands at the fronts of the rooms
pub record Held (text : List ℕ) (rest band : ℤ) (slots specials : ℕ) (setpoints : List ℤ) (bands : List ℕ) : Type 0 where
  pub not_refused : text_refusal text ≡ 0
  pub rest_is : rest ≡ rest_of text
  pub band_is : band ≡ band_of text
  pub slots_is : slots ≡ length (setpoints_of text)
  pub specials_is : specials ≡ length (specials_of text)
  pub inside : slots ≤ length setpoints
  pub bands_inside : slots ≤ length bands
  pub setpoints_are : take slots setpoints ≡ setpoints_of text
  pub bands_are : take slots bands ≡ bands_of text

pub held : {text : List ℕ} {numbers : TextNumbers} {setpoints setpoints' : List ℤ} {bands bands' : List ℕ} → TextRead text (Ok numbers) setpoints setpoints' bands bands'
    → Held text numbers.rest numbers.band numbers.slots numbers.specials setpoints' bands'
held {text} {numbers} {setpoints} {setpoints'} {bands} {bands'} read =
    let bands_many : length (bands_of text) ≡ numbers.slots = as_many_bands text ∙ sym read.numbers.slots_is in
    record {
      not_refused = sym read.refusal_is;
      rest_is = read.numbers.rest_is;
      band_is = read.numbers.band_is;
      slots_is = read.numbers.slots_is;
      specials_is = read.numbers.specials_is;
      inside = rw read.setpoints_are (omega (arith, room_for (setpoints_of text) setpoints, read.numbers.slots_is));
      bands_inside = rw read.bands_are (omega (arith, room_for (bands_of text) bands));
      setpoints_are = rw read.setpoints_are (front_of (setpoints_of text) setpoints numbers.slots (sym read.numbers.slots_is));
      bands_are = rw read.bands_are (front_of (bands_of text) bands numbers.slots bands_many);
    }

-- the numbers of such a text fit 32 bits
module _ {text : List ℕ} {rest band : ℤ} {slots specials : ℕ} {setpoints : List ℤ} {bands : List ℕ} (of_text : Held text rest band slots specials setpoints bands) where
  pub rest_fits : SFits w32 rest
  rest_fits =
      let near = ltb-false 20000 (nat_abs (rest_of text)) (accepted text of_text.not_refused).rest_near in
      rw of_text.rest_is (fits_32 (rest_of text) (omega arith))

  pub band_fits : SFits w32 band
  band_fits = rw of_text.band_is (fits_32 (band_of text) (band_accepted (band_of text) (accepted text of_text.not_refused).band_inside))
