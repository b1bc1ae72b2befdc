-- Profile text: document 01, "Setpoints as typed", with document 02's F-6, and the order of refusals of a text. For the auditor. Every definition is over all byte strings.
use Rattle.std.specs.Prelude.{Bool, true, false, not, cond, List, [], ◌∷◌, map, ℕ, zero, suc, ◌+◌, ◌*◌, ltb, eqb, ℤ, pos, nat_abs, length, drop}
use Rattle.std.proofs.Math.Option.{Option, none, some}
use Rattle.limits.specs.Answers.{◌when◌, ◌then◌, granted}
use Rattle.limits.specs.Limits.{beyond, outside_band}
use Rattle.bands.specs.declared.SpecialSlot.{SpecialSlot}
use Rattle.bands.specs.Bands.{specials_among}
use Rattle.decimal.specs.Number.{longest_number, reads_as}
use Rattle.decimal.specs.Answers.{number_or}

-- the bytes of the longest line with one number that is accepted, its byte 10 among them, and of the longest with a setpoint, a space and an own band
abbrev pub longest_line : ℕ
longest_line = longest_number + 1

abbrev pub longest_slot_line : ℕ
longest_slot_line = longest_number + 1 + longest_line

-- the bytes of the longest text that is accepted: the rest value, the band and 512 slots, each in the longest line of its kind
abbrev pub longest_text : ℕ
longest_text = longest_line * (1 + 1) + longest_slot_line * 512

-- the bytes before the first `mark`, and all of them where there is none
unfoldable pub before : ℕ → List ℕ → List ℕ
before mark [] = []
before mark (byte ∷ bytes) = cond (eqb byte mark) [] (byte ∷ before mark bytes)

-- whether some bytes have that mark
abbrev pub has : ℕ → List ℕ → Bool
has mark bytes = ltb (length (before mark bytes)) (length bytes)

-- what follows the bytes before the first mark, and the mark
abbrev pub behind : ℕ → List ℕ → List ℕ
behind mark bytes = drop (suc (length (before mark bytes))) bytes

-- the first line of a text: the bytes before the first byte 10, and all of them where there is none
abbrev pub line : List ℕ → List ℕ
line text = before 10 text

-- "Every line ends in the byte 10"
abbrev pub ended : List ℕ → Bool
ended text = has 10 text

-- what follows the first line and its byte 10
abbrev pub following : List ℕ → List ℕ
following text = behind 10 text

-- the number of the first line, none where the line is not ended or is no number: "Nothing but the number stands before" the byte 10
abbrev pub line_number : List ℕ → Option ℤ
line_number text = cond (ended text) (reads_as (line text)) none

-- what a slot's line says: the setpoint, and the band that the slot goes by
pub record Slot : Type 0 where
  pub setpoint : ℤ
  pub band : ℤ

-- F-6, "A setpoint line may now carry one space and the slot's own band": the band that a line's slot goes by, the common one where the line has no space
abbrev pub line_band : ℤ → List ℕ → Option ℤ
line_band common line = cond (has 32 line) (reads_as (behind 32 line)) (some common)

-- a slot of zeros, where there is none
abbrev pub no_slot : Slot
no_slot = record { setpoint = pos 0; band = pos 0 }

-- the slot of a setpoint and a band, none where one of them is no number
abbrev pub slot_of : Option ℤ → Option ℤ → Option Slot
slot_of none band = none
slot_of (some setpoint) none = none
slot_of (some setpoint) (some band) = some (record { setpoint = setpoint; band = band })

-- the slot of the first line, none where the line is not ended, or what stands before its first space or behind it is no number
abbrev pub line_slot : ℤ → List ℕ → Option Slot
line_slot common text = cond (ended text) (slot_of (reads_as (before 32 (line text))) (line_band common (line text))) none

-- "in a line 1, then" what a check of its number, or of its slot, gives
abbrev pub read_refusal : {A : Type 0} → (A → ℕ) → Option A → ℕ
read_refusal check none = 1
read_refusal check (some number) = check number

-- the first line of a text that has to have one: "4 where the text ends" before it
abbrev pub line_refusal : (ℤ → ℕ) → List ℕ → ℕ
line_refusal check [] = 4
line_refusal check (byte ∷ text) = read_refusal check (line_number (byte ∷ text))

-- row 2, of the rest value and of a setpoint
abbrev pub value_refusal : ℤ → ℕ
value_refusal value = 2 when beyond 20000 value

-- row 3
abbrev pub band_refusal : ℤ → ℕ
band_refusal band = 3 when outside_band band

-- whether a text has ended
abbrev pub is_empty : List ℕ → Bool
is_empty [] = true
is_empty (byte ∷ text) = false

-- F-6, "In a line the setpoint's 2 goes before the band's 3"
abbrev pub slot_line_refusal : Slot → ℕ
slot_line_refusal slot = value_refusal slot.setpoint then band_refusal slot.band

-- the setpoints' lines, at most `room` of them: the first refusal; "4 where .. a byte follows the 514th line"
unfoldable pub slots_refusal : ℤ → ℕ → List ℕ → ℕ
slots_refusal common zero text = 4 when not (is_empty text)
slots_refusal common (suc room) text = cond (is_empty text) 0 (read_refusal slot_line_refusal (line_slot common text) then slots_refusal common room (following text))

-- the slots of the lines before the first refusal, of all lines where there is none
unfoldable pub slots_read : ℤ → ℕ → List ℕ → List Slot
slots_read common zero text = []
slots_read common (suc room) text =
    cond (is_empty text) []
    (granted (read_refusal slot_line_refusal (line_slot common text)) (number_or no_slot (line_slot common text) ∷ slots_read common room (following text)) [])

-- "the rest value, the band", the first two lines: the first refusal
abbrev pub head_refusal : List ℕ → ℕ
head_refusal text = line_refusal value_refusal text then line_refusal band_refusal (following text)

-- the text from its third line on
abbrev pub setpoints_text : List ℕ → List ℕ
setpoints_text text = following (following text)

-- the rest value of a text, and its band, the common one
abbrev pub rest_of : List ℕ → ℤ
rest_of text = number_or (pos 0) (line_number text)

abbrev pub band_of : List ℕ → ℤ
band_of text = number_or (pos 0) (line_number (following text))

-- "Text: lines from the first; in a line 1, then 2 or 3; 4 where the text ends before a third line, or a byte follows the 514th line"
abbrev pub text_refusal : List ℕ → ℕ
text_refusal text = head_refusal text then 4 when is_empty (setpoints_text text) then slots_refusal (band_of text) 512 (setpoints_text text)

-- the slots of a text, their setpoints, and the band that each goes by
abbrev pub text_slots : List ℕ → List Slot
text_slots text = granted (head_refusal text) (slots_read (band_of text) 512 (setpoints_text text)) []

abbrev pub setpoints_of : List ℕ → List ℤ
setpoints_of text = map (λ (slot : Slot). slot.setpoint) (text_slots text)

abbrev pub bands_of : List ℕ → List ℕ
bands_of text = map (λ (slot : Slot). nat_abs slot.band) (text_slots text)

-- the special slots of a text: those whose band, as a value after reading, is not the common one
abbrev pub specials_of : List ℕ → List SpecialSlot
specials_of text = specials_among (nat_abs (band_of text)) (bands_of text)
