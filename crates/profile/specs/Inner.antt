-- What inner functions promise. A reader of the promises need not open this file.
use Rattle.std.specs.Prelude.{◌≡◌, List, map, ℕ, ◌≤◌, ◌<◌, ℤ, pos, nat_abs, length, drop, Result, IfOk}
use Rattle.std.proofs.Math.Option.{Option, some}
use Rattle.limits.specs.Answers.{laid}
use Rattle.refusals.specs.Answers.{refused_with}
use Rattle.refusals.specs.declared.Refusal.{Refusal}
use Rattle.bands.specs.Bands.{specials_among}
use Rattle.profile.specs.declared.SlotCounts.{SlotCounts}
use Rattle.profile.specs.declared.line.Line.{Line}
use Rattle.profile.specs.declared.line.SlotLine.{SlotLine}
use Rattle.profile.specs.Text.{Slot, line_number, read_refusal, line_refusal, slot_line_refusal, following, slots_refusal, slots_read}

-- nothing to check of a line's number
abbrev pub no_check : ℤ → ℕ
no_check number = 0

-- the number of the line at a place, and the place of the next line
pub record LineAt (text : List ℕ) (at : ℕ) (line : Line) : Type 0 where
  pub number_is : line_number (drop at text) ≡ some line.number
  pub rest_is : drop line.next text ≡ following (drop at text)
  pub in_text : line.next ≤ length text
  pub moves_on : at < line.next

-- the line at a place by what has to be checked of its number
pub record LineRead (check : ℤ → ℕ) (text : List ℕ) (at : ℕ) (answer : Result Line Refusal) : Type 0 where
  pub refusal_is : refused_with answer ≡ line_refusal check (drop at text)
  pub line_is : IfOk answer (λ line. LineAt text at line)

-- the slot that the line at a place says, and the place of the next line
pub record SlotAt (said : Option Slot) (text : List ℕ) (at : ℕ) (line : SlotLine) : Type 0 where
  pub slot_is : said ≡ some (record { setpoint = line.setpoint; band = pos line.band })
  pub rest_is : drop line.next text ≡ following (drop at text)
  pub in_text : line.next ≤ length text
  pub moves_on : at < line.next

-- the line at a place as the slot that it says
pub record SlotRead (said : Option Slot) (text : List ℕ) (at : ℕ) (answer : Result SlotLine Refusal) : Type 0 where
  pub refusal_is : refused_with answer ≡ read_refusal slot_line_refusal said
  pub line_is : IfOk answer (λ line. SlotAt said text at line)

-- the setpoints of slots, and the bands that they go by
abbrev pub setpoints_in : List Slot → List ℤ
setpoints_in slots = map (λ (slot : Slot). slot.setpoint) slots

abbrev pub bands_in : List Slot → List ℕ
bands_in slots = map (λ (slot : Slot). nat_abs slot.band) slots

-- how many slots there are, and how many of these are special
pub record Counted (common : ℕ) (slots : List Slot) (counts : SlotCounts) : Type 0 where
  pub count_is : counts.count ≡ length slots
  pub specials_is : counts.specials ≡ length (specials_among common (bands_in slots))

-- the slots' lines from a place on
pub record SlotsRead (common : ℕ) (text : List ℕ) (from : ℕ) (answer : Result SlotCounts Refusal) (setpoints setpoints' : List ℤ) (bands bands' : List ℕ) : Type 0 where
  pub refusal_is : refused_with answer ≡ slots_refusal (pos common) 512 (drop from text)
  pub counts_are : IfOk answer (λ counts. Counted common (slots_read (pos common) 512 (drop from text)) counts)
  pub setpoints_are : setpoints' ≡ laid (setpoints_in (slots_read (pos common) 512 (drop from text))) setpoints
  pub bands_are : bands' ≡ laid (bands_in (slots_read (pos common) 512 (drop from text))) bands
