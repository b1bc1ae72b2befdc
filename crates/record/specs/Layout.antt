-- Layouts: a table of bit fields, a row each, "packed most significant bit first, without gaps": document 01, "The record". For the auditor.
-- `proofs/Layouts.antt` shows for every layout that writing and reading belong together: `layout_reads_back` and `layout_is_written`.
-- `proofs/Entries.antt` shows it for every list of entries: `entries_read_back` and `entries_are_written`.
use Rattle.std.specs.Prelude.{List, [], ◌∷◌, ◌++◌, map, ℕ, zero, suc, ◌+◌, ℤ}
use Rattle.bits.specs.Bits.{bits, field_at}
use Rattle.bits.specs.Signed.{complement}

-- a row of the table: its bits, and the number that it holds of what is written
pub record Field (A : Type 0) : Type 0 where
  pub width : ℕ
  pub holds : A → ℕ

-- a row that holds a number, "unsigned"
abbrev pub unsigned : {A : Type 0} → ℕ → (A → ℕ) → Field A
unsigned width number = record { width = width; holds = number }

-- a row that holds a signed number, in "two's complement"
abbrev pub twos_complement : {A : Type 0} → ℕ → (A → ℤ) → Field A
twos_complement width number = record { width = width; holds = λ it. complement width (number it) }

-- the bits of all rows
abbrev pub layout_width : {A : Type 0} → List (Field A) → ℕ
layout_width [] = 0
layout_width (field ∷ fields) = field.width + layout_width fields

-- what is written: the rows' bits, one row after the other
abbrev pub layout_bits : {A : Type 0} → List (Field A) → A → List ℕ
layout_bits [] it = []
layout_bits (field ∷ fields) it = bits field.width (field.holds it) ++ layout_bits fields it

-- what bytes read as where a layout begins at a place: the rows' numbers, each row behind the one before
abbrev pub layout_numbers : {A : Type 0} → List (Field A) → ℕ → List ℕ → List ℕ
layout_numbers [] place bytes = []
layout_numbers (field ∷ fields) place bytes = field_at bytes place field.width ∷ layout_numbers fields (place + field.width) bytes

-- the numbers that the rows hold of what is written
abbrev pub held : {A : Type 0} → List (Field A) → A → List ℕ
held fields it = map (λ field. field.holds it) fields

-- entries of one layout are written one behind the other
unfoldable pub entries_bits : {A : Type 0} → List (Field A) → List A → List ℕ
entries_bits layout [] = []
entries_bits layout (entry ∷ entries) = layout_bits layout entry ++ entries_bits layout entries

-- and `count` of them are read from a place on, each behind the one before
unfoldable pub entries_from : {A : Type 0} → List (Field A) → (ℕ → List ℕ → A) → ℕ → ℕ → List ℕ → List A
entries_from layout read zero place bytes = []
entries_from layout read (suc count) place bytes = read place bytes ∷ entries_from layout read count (place + layout_width layout) bytes
