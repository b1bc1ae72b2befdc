-- The first bytes of a text decide, one more than the longest text has: they are refused with the same number, and a text that is not refused has no more.
-- A line that is not refused is no longer than the longest of its kind, so the bytes of a longest line for each line that may still come and one more are enough
-- (`LongFront`): a line that such a front cuts off is refused with 1, and so is the whole line, which is too long for its numbers.
use mathlib.Core.Path.{◌≡◌, refl, sym, ap, ◌∙◌}
use mathlib.Core.Bool.{Bool, true, false, cond, true≢false, false≢true}
use mathlib.Core.List.{List, [], ◌∷◌}
use mathlib.Core.Option.{Option, none, some}
use Prim.Native.Nat.{ℕ, zero, suc, ◌+◌, ◌*◌, ◌-◌, ◌≤◌, ◌<◌}
use native.Mathlib.Omega.{arith}
use lib.Dec.{ltb, eqb}
use lib.IntN.{ℤ, pos}
use lib.ListN.{length, take, drop, length-drop}
use lib.Seq.{take_all, take-add, drop_at, length-take-le}
use borrow.Author.Tests.{ltb-true, ltb-false, lt-ltb, le-ltb}
use Rattle.std.specs.Prelude.{Result, Ok, Err}
use Rattle.limits.specs.Answers.{◌when◌, ◌then◌, laid}
use Rattle.limits.proofs.Refusals.{none_of_two, passed, then_same, granted_same}
use Rattle.refusals.specs.declared.Refusal.{Refusal}
use Rattle.refusals.specs.Answers.{refused_with}
use Rattle.decimal.specs.Number.{longest_number, reads_as}
use Rattle.decimal.specs.Answers.{number_or}
use Rattle.decimal.proofs.ShortNumbers.{either_none, too_long_number}
use Rattle.profile.specs.Text.{Slot, longest_line, longest_slot_line, longest_text, before, behind, line, ended, following, line_number, no_slot, line_band, slot_of, line_slot, read_refusal, line_refusal, value_refusal, band_refusal, is_empty, slot_line_refusal, slots_refusal, slots_read, head_refusal, setpoints_text, band_of, text_refusal, text_slots, setpoints_of, bands_of}
use Rattle.profile.specs.declared.TextNumbers.{TextNumbers}
use Rattle.profile.specs.Answers.{NumbersOf, TextRead}
use Rattle.profile.specs.Inner.{setpoints_in, bands_in}
use Rattle.profile.proofs.Texts.{refused_numbers}

-- a front that goes past the first line has the same first line
line_of_front : (text : List ℕ) (bytes : ℕ) → length (line text) < bytes → line (take bytes text) ≡ line text
unfolding before
line_of_front text zero past = absurd (omega arith)
line_of_front [] (suc bytes) past = refl
line_of_front (byte ∷ text) (suc bytes) past = by_first (eqb byte 10) past (line_of_front text bytes)
  where
    by_first : (is-end : Bool) → length (cond is-end [] (byte ∷ line text)) < suc bytes → (length (line text) < bytes → line (take bytes text) ≡ line text)
        → cond is-end [] (byte ∷ line (take bytes text)) ≡ cond is-end [] (byte ∷ line text)
    by_first true past' shorter = refl
    by_first false past' shorter = ap (λ (l : List ℕ). byte ∷ l) (shorter (omega arith))

-- a front that cuts the first line off is all of it line
line_cut_off : (text : List ℕ) (bytes : ℕ) → bytes ≤ length (line text) → line (take bytes text) ≡ take bytes text
unfolding before
line_cut_off text zero within = refl
line_cut_off [] (suc bytes) within = refl
line_cut_off (byte ∷ text) (suc bytes) within = by_first (eqb byte 10) within (line_cut_off text bytes)
  where
    by_first : (is-end : Bool) → suc bytes ≤ length (cond is-end [] (byte ∷ line text)) → (bytes ≤ length (line text) → line (take bytes text) ≡ take bytes text)
        → cond is-end [] (byte ∷ line (take bytes text)) ≡ byte ∷ take bytes text
    by_first true within' shorter = absurd (omega arith)
    by_first false within' shorter = ap (λ (l : List ℕ). byte ∷ l) (shorter (omega arith))

-- the front of a text, `need` bytes and one more, or longer
record LongFront (need : ℕ) (text front : List ℕ) : Type 0 where
  bytes : ℕ
  enough : need + 1 ≤ bytes
  front_is : front ≡ take bytes text

-- it ends at once only where the text does
same_end : {need : ℕ} {text front : List ℕ} → LongFront need text front → is_empty front ≡ is_empty text
same_end {need} {text} of_text = rw of_text.front_is (by_bytes text of_text.bytes of_text.enough)
  where
    by_bytes : (text : List ℕ) (bytes : ℕ) → need + 1 ≤ bytes → is_empty (take bytes text) ≡ is_empty text
    by_bytes text zero enough = absurd (omega arith)
    by_bytes [] (suc bytes) enough = refl
    by_bytes (byte ∷ text) (suc bytes) enough = refl

-- what the first line says, none where it is not ended
abbrev first_says : {A : Type 0} → (List ℕ → Option A) → List ℕ → Option A
first_says says text = cond (ended text) (says (line text)) none

-- lines of a kind of which the longest has `longest` bytes, its byte 10 among them: a longer one says nothing
record Kind {A : Type 0} (says : List ℕ → Option A) (longest : ℕ) : Type 0 where
  no_longer : (line : List ℕ) → longest ≤ length line → says line ≡ none

module _ {A : Type 0} {says : List ℕ → Option A} {longest : ℕ} (kind : Kind says longest) where
  unended : (text : List ℕ) → length text ≤ length (line text) → first_says says text ≡ none
  unended text no_end = rw (le-ltb (length (line text)) (length text) no_end) refl

  too_long : (text : List ℕ) → longest ≤ length (line text) → first_says says text ≡ none
  too_long text long = either_none (ended text) (says (line text)) none (kind.no_longer (line text) long) refl

  -- the bytes of a longest line decide what the first line says
  same_first : (text : List ℕ) (bytes : ℕ) → longest ≤ bytes → first_says says (take bytes text) ≡ first_says says text
  same_first text bytes enough = by_length (ltb bytes (length text)) refl (ltb (length (line text)) bytes) refl
    where
      by_length : (more : Bool) → ltb bytes (length text) ≡ more → (past : Bool) → ltb (length (line text)) bytes ≡ past
          → first_says says (take bytes text) ≡ first_says says text
      by_length false is_all past is = ap (first_says says) (take_all bytes text (ltb-false bytes (length text) is_all))
      by_length true is-more true is-past =
          let more = ltb-true bytes (length text) is-more in
          let past = ltb-true (length (line text)) bytes is-past in
          let long : length (take bytes text) ≡ bytes = length-take-le bytes text (omega arith) in
          rw (line_of_front text bytes past, long, lt-ltb (length (line text)) bytes past, lt-ltb (length (line text)) (length text) (omega arith)) refl
      by_length true is-more false is_Within =
          let within = ltb-false (length (line text)) bytes is_Within in
          unended (take bytes text) (rw (line_cut_off text bytes within) (omega arith)) ∙ sym (too_long text (omega arith))

  -- a first line that says something
  record Said (text : List ℕ) : Type 0 where
    short : length (line text) < longest
    is_ended : length (line text) < length text

  said : (text : List ℕ) → (first_says says text ≡ none → ⊥) → Said text
  said text something = by_length (ltb (length (line text)) longest) refl (ended text) refl
    where
      by_length : (short : Bool) → ltb (length (line text)) longest ≡ short → (is_ended : Bool) → ended text ≡ is_ended → Said text
      by_length false is-long is_ended is = absurd (something (too_long text (ltb-false (length (line text)) longest is-long)))
      by_length true is-short false is-unended = absurd (something (unended text (ltb-false (length (line text)) (length text) is-unended)))
      by_length true is-short true is_ended = record { short = ltb-true (length (line text)) longest is-short; is_ended = ltb-true (length (line text)) (length text) is_ended }

  -- it is no longer than the longest
  said_fits : (text : List ℕ) → (first_says says text ≡ none → ⊥) → length text ≤ longest + length (following text)
  said_fits text something = let first = said text something in simp length-drop (omega (arith, first.short))

  module _ {need : ℕ} {text front : List ℕ} (of_text : LongFront need text front) where
    same_says : longest ≤ need → first_says says front ≡ first_says says text
    same_says covers = rw of_text.front_is (same_first text of_text.bytes (omega (arith, of_text.enough)))

    -- what follows a line that says something
    after_first : (left : ℕ) → longest + left ≤ need → (first_says says text ≡ none → ⊥) → LongFront left (following text) (following front)
    after_first left covers something =
        let first = said text something in
        let taken : ℕ = suc (length (line text)) in
        let behind : ℕ = of_text.bytes - taken in
        let both : of_text.bytes ≡ taken + behind = omega (arith, of_text.enough, first.short) in
        let long : length (take taken text) ≡ taken = length-take-le taken text (omega (arith, first.is_ended)) in
        let line_is : line front ≡ line text = rw of_text.front_is (line_of_front text of_text.bytes (omega (arith, of_text.enough, first.short))) in
        record {
          bytes = behind;
          enough = omega (arith, of_text.enough, first.short);
          front_is =
              ap (λ (l : List ℕ). drop (suc (length l)) front) line_is
              ∙ ap (drop taken) (of_text.front_is ∙ ap (λ (count : ℕ). take count text) both ∙ take-add taken behind text)
              ∙ drop_at (take taken text) (take behind (following text)) taken long;
        }

-- lines with one number, and lines with a slot
number_line : Kind reads_as longest_line
number_line = record { no_longer = λ line long. too_long_number line long }

slot_line : (common : ℤ) → Kind (λ (line : List ℕ). slot_of (reads_as (before 32 line)) (line_band common line)) longest_slot_line
slot_line common = record { no_longer = no_longer }
  where
    no_own : (setpoint : Option ℤ) → slot_of setpoint none ≡ none
    no_own none = refl
    no_own (some setpoint) = refl

    no_longer : (line : List ℕ) → longest_slot_line ≤ length line → slot_of (reads_as (before 32 line)) (line_band common line) ≡ none
    no_longer line long = by_field (ltb longest_number (length (before 32 line))) refl
      where
        by_field : (long-field : Bool) → ltb longest_number (length (before 32 line)) ≡ long-field → slot_of (reads_as (before 32 line)) (line_band common line) ≡ none
        by_field true is = rw (too_long_number (before 32 line) (ltb-true longest_number (length (before 32 line)) is))
        by_field false is =
            let short = ltb-false longest_number (length (before 32 line)) is in
            let own_long : longest_number < length (behind 32 line) = simp length-drop (omega arith) in
            let no_band : line_band common line ≡ none =
            rw (lt-ltb (length (before 32 line)) (length line) (omega arith)) (too_long_number (behind 32 line) own_long) in
            rw no_band (no_own (reads_as (before 32 line)))

-- a line that is not refused says something
some_number : (check : ℤ → ℕ) (text : List ℕ) → line_refusal check text ≡ 0 → line_number text ≡ none → ⊥
some_number check [] right nothing = omega arith
some_number check (byte ∷ text) right nothing = let refused : line_refusal check (byte ∷ text) ≡ 1 = ap (read_refusal check) nothing in omega arith

some_slot : (common : ℤ) (text : List ℕ) → read_refusal slot_line_refusal (line_slot common text) ≡ 0 → line_slot common text ≡ none → ⊥
some_slot common text right nothing = let refused : read_refusal slot_line_refusal (line_slot common text) ≡ 1 = ap (read_refusal slot_line_refusal) nothing in omega arith

-- a line with one number of a long front is refused alike
same_line : (check : ℤ → ℕ) {need : ℕ} {text front : List ℕ} → LongFront need text front → longest_line ≤ need → line_refusal check front ≡ line_refusal check text
same_line check {need} {text} {front} of_text covers = by_end text front (same_end of_text) (same_says number_line of_text covers)
  where
    by_end : (text front : List ℕ) → is_empty front ≡ is_empty text → line_number front ≡ line_number text → line_refusal check front ≡ line_refusal check text
    by_end [] [] same number_same = refl
    by_end [] (byte ∷ front) same number_same = absurd (false≢true same)
    by_end (byte ∷ text) [] same number_same = absurd (true≢false same)
    by_end (byte ∷ text) (byte' ∷ front) same number_same = ap (read_refusal check) number_same

-- the slots' lines of a long front: their refusal, and what is read before it
module _ (common : ℤ) where
  module _ (room : ℕ) {text front : List ℕ} (of_text : LongFront (longest_slot_line * suc room) text front) where
    same_slot : line_slot common front ≡ line_slot common text
    same_slot = same_says (slot_line common) of_text (omega arith)

    after_slot : read_refusal slot_line_refusal (line_slot common text) ≡ 0 → LongFront (longest_slot_line * room) (following text) (following front)
    after_slot right = after_first (slot_line common) of_text (longest_slot_line * room) (omega arith) (some_slot common text right)

  same_slots_refusal : (room : ℕ) (text front : List ℕ) → LongFront (longest_slot_line * room) text front → slots_refusal common room front ≡ slots_refusal common room text
  unfolding slots_refusal
  same_slots_refusal zero text front of_text = rw (same_end of_text) refl
  same_slots_refusal (suc room) text front of_text =
      let first : ℕ = read_refusal slot_line_refusal (line_slot common text) in
      let later : first ≡ 0 → slots_refusal common room (following front) ≡ slots_refusal common room (following text) =
      λ right. same_slots_refusal room (following text) (following front) (after_slot room of_text right) in
      rw (same_end of_text, same_slot room of_text) (ap (cond (is_empty text) 0) (then_same first later))

  same_slots : (room : ℕ) (text front : List ℕ) → LongFront (longest_slot_line * room) text front → slots_read common room front ≡ slots_read common room text
  unfolding slots_read
  same_slots zero text front of_text = refl
  same_slots (suc room) text front of_text =
      let slot : Slot = number_or no_slot (line_slot common text) in
      let later : read_refusal slot_line_refusal (line_slot common text) ≡ 0 → slot ∷ slots_read common room (following front) ≡ slot ∷ slots_read common room (following text) =
      λ right. ap (λ (slots : List Slot). slot ∷ slots) (same_slots room (following text) (following front) (after_slot room of_text right)) in
      rw (same_end of_text, same_slot room of_text) (ap (cond (is_empty text) []) (granted_same (read_refusal slot_line_refusal (line_slot common text)) [] later))

  -- lines that are not refused are no longer than so many longest ones
  slots_fit : (room : ℕ) (text : List ℕ) → slots_refusal common room text ≡ 0 → length text ≤ longest_slot_line * room
  unfolding slots_refusal
  slots_fit zero [] right = omega arith
  slots_fit zero (byte ∷ text) right = absurd (omega arith)
  slots_fit (suc room) text right = by_end text right (slots_fit room (following text))
    where
      by_end : (text : List ℕ) → cond (is_empty text) 0 (read_refusal slot_line_refusal (line_slot common text) then slots_refusal common room (following text)) ≡ 0
          → (slots_refusal common room (following text) ≡ 0 → length (following text) ≤ longest_slot_line * room) → length text ≤ longest_slot_line * suc room
      by_end [] right' later = omega arith
      by_end (byte ∷ text) right' later =
          let both = none_of_two (read_refusal slot_line_refusal (line_slot common (byte ∷ text))) (slots_refusal common room (following (byte ∷ text))) right' in
          omega (arith, said_fits (slot_line common) (byte ∷ text) (some_slot common (byte ∷ text) both.0), later both.1)

module _ (text : List ℕ) where
  abbrev front : List ℕ
  front = take (suc longest_text) text

  -- 514 lines and a byte more
  first_bytes : LongFront longest_text text front
  first_bytes = record { bytes = suc longest_text; enough = omega arith; front_is = refl }

  -- the first two lines, and the text from the third on
  second_line : line_refusal value_refusal text ≡ 0 → LongFront (longest_line + longest_slot_line * 512) (following text) (following front)
  second_line right = after_first number_line first_bytes (longest_line + longest_slot_line * 512) (omega arith) (some_number value_refusal text right)

  same_head : head_refusal front ≡ head_refusal text
  same_head = rw (same_line value_refusal first_bytes (omega arith)) (then_same (line_refusal value_refusal text) (λ right. same_line band_refusal (second_line right) (omega arith)))

  module _ (right : head_refusal text ≡ 0) where
    both_right : (line_refusal value_refusal text ≡ 0) × (line_refusal band_refusal (following text) ≡ 0)
    both_right = none_of_two (line_refusal value_refusal text) (line_refusal band_refusal (following text)) right

    same_band : band_of front ≡ band_of text
    same_band = ap (number_or (pos 0)) (same_says number_line (second_line both_right.0) (omega arith))

    third_line : LongFront (longest_slot_line * 512) (setpoints_text text) (setpoints_text front)
    third_line = after_first number_line (second_line both_right.0) (longest_slot_line * 512) (omega arith) (some_number band_refusal (following text) both_right.1)

    same_lines : 4 when is_empty (setpoints_text front) then slots_refusal (band_of front) 512 (setpoints_text front)
        ≡ 4 when is_empty (setpoints_text text) then slots_refusal (band_of text) 512 (setpoints_text text)
    same_lines = rw (same_band, same_end third_line, same_slots_refusal (band_of text) 512 (setpoints_text text) (setpoints_text front) third_line) refl

    same_lines_slots : slots_read (band_of front) 512 (setpoints_text front) ≡ slots_read (band_of text) 512 (setpoints_text text)
    same_lines_slots = rw same_band (same_slots (band_of text) 512 (setpoints_text text) (setpoints_text front) third_line)

-- the first bytes are refused with the same number as the text, and not refused where it is not
pub first_bytes_decide : (text : List ℕ) → text_refusal (take (suc longest_text) text) ≡ text_refusal text
first_bytes_decide text = rw (same_head text) (then_same (head_refusal text) (same_lines text))

-- the slots of the lines before the first refusal are the same too
first_bytes_slots : (text : List ℕ) → text_slots (take (suc longest_text) text) ≡ text_slots text
first_bytes_slots text = rw (same_head text) (granted_same (head_refusal text) [] (same_lines_slots text))

pub first_bytes_setpoints : (text : List ℕ) → setpoints_of (take (suc longest_text) text) ≡ setpoints_of text
first_bytes_setpoints text = ap setpoints_in (first_bytes_slots text)

pub first_bytes_bands : (text : List ℕ) → bands_of (take (suc longest_text) text) ≡ bands_of text
first_bytes_bands text = ap bands_in (first_bytes_slots text)

-- a text that is not refused: 514 lines at the most
pub accepted_length : (text : List ℕ) → text_refusal text ≡ 0 → length text ≤ longest_text
accepted_length text right =
    let head = none_of_two (head_refusal text) _ right in
    let first = both_right text head.0 in
    let third = passed 3 (is_empty (setpoints_text text)) _ head.1 in
    omega (
      arith,
      said_fits number_line text (some_number value_refusal text first.0),
      said_fits number_line (following text) (some_number band_refusal (following text) first.1),
      slots_fit (band_of text) 512 (setpoints_text text) third.1,
    )

pub accepted_is_short : (text : List ℕ) → text_refusal text ≡ 0 → take (suc longest_text) text ≡ text
accepted_is_short text right = take_all (suc longest_text) text (omega (arith, accepted_length text right))

-- so what is read of the first bytes is the answer for the text, refused or not
pub first_bytes_read : (text : List ℕ) {answer : Result TextNumbers Refusal} {setpoints setpoints' : List ℤ} {bands bands' : List ℕ}
    → TextRead (take (suc longest_text) text) answer setpoints setpoints' bands bands' → TextRead text answer setpoints setpoints' bands bands'
first_bytes_read text {answer} {setpoints} {setpoints'} {bands} read = record {
  refusal_is = is;
  numbers = same_numbers answer is read.numbers;
  setpoints_are = read.setpoints_are ∙ ap (λ (l : List ℤ). laid l setpoints) (first_bytes_setpoints text);
  bands_are = read.bands_are ∙ ap (λ (l : List ℕ). laid l bands) (first_bytes_bands text);
}
  where
    is : refused_with answer ≡ text_refusal text
    is = read.refusal_is ∙ first_bytes_decide text

    same_numbers : (answer : Result TextNumbers Refusal) → refused_with answer ≡ text_refusal text → NumbersOf (take (suc longest_text) text) answer → NumbersOf text answer
    same_numbers (Ok numbers) right of_front = rw (accepted_is_short text (sym right)) at of_front
    same_numbers (Err refusal) wrong of_front = refused_numbers text refusal
