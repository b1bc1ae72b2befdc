-- The two round trips of a layout, for every table of fields: what it writes reads back, and what bytes read as is what stands there.
-- Both go row by row: a row's number is read where the row begins, and the next row begins behind it.
use mathlib.Core.Path.{◌≡◌, refl, sym, ap, ap₂, ◌∙◌}
use mathlib.Core.List.{List, [], ◌∷◌, ◌++◌, append_assoc}
use Prim.Native.Nat.{ℕ, ◌+◌, ◌*◌, ◌^◌, ◌≤◌, ◌<◌}
use native.Mathlib.Nat.{add_assoc, add-zero}
use native.Mathlib.Omega.{arith}
use lib.ListN.{length, get_or, take, drop, length-append, length-drop, take-append-drop}
use lib.Seq.{take_at, drop_at, drop-drop, length-take-le}
use Rattle.bits.specs.Bits.{bits, bits_of, number_of, field_at, replaced_at}
use Rattle.bits.specs.Signed.{complement, signed_of}
use Rattle.bits.specs.Inner.{Below}
use Rattle.bits.proofs.Numbers.{nil_below, append_below, take_below, drop_below}
use Rattle.bits.proofs.Fields.{length_bits, bits_below, number_of_bits, bits_of_number}
use Rattle.bits.proofs.Bytes.{length_bits_of, bits_of_below, field_below}
use Rattle.bits.proofs.Complement.{signed_writes_back}
use Rattle.bits.proofs.Replacing.{length_replaced, replaced_both}
use Rattle.record.specs.Layout.{Field, layout_width, layout_bits, layout_numbers, held}

-- each row's number fits the row
pub data Fits {A : Type 0} (it : A) : List (Field A) → Type 0 where
  no_row : Fits it []
  row : {field : Field A} {fields : List (Field A)} → field.holds it < 2 ^ field.width → Fits it fields → Fits it (field ∷ fields)

-- a number that fits, written at a place and followed by anything, is read there
pub field_reads_back : (bytes : List ℕ) (place width number : ℕ) (back : List ℕ) → number < 2 ^ width → drop place (bits_of bytes) ≡ bits width number ++ back → field_at bytes place width ≡ number
field_reads_back bytes place width number back fits stands = rw (stands, take_at (bits width number) back width (length_bits width number)) (number_of_bits width number fits)

-- what stands behind it
pub behind_field : (place width number : ℕ) (before back : List ℕ) → drop place before ≡ bits width number ++ back → drop (place + width) before ≡ back
behind_field place width number before back stands = sym (drop-drop width place before) ∙ rw stands (drop_at (bits width number) back width (length_bits width number))

-- a field's number writes the bits that stand there
pub field_in_front : (bytes : List ℕ) (place width : ℕ) → place + width ≤ 8 * length bytes
    → bits width (field_at bytes place width) ++ drop (place + width) (bits_of bytes) ≡ drop place (bits_of bytes)
field_in_front bytes place width inside =
    let from : List ℕ = drop place (bits_of bytes) in
    let long : length (take width from) ≡ width = length-take-le width from (simp length-drop (omega (arith, length_bits_of bytes))) in
    let same : bits width (number_of (take width from)) ≡ take width from =
    ap (λ (w : ℕ). bits w (number_of (take width from))) (sym long) ∙ bits_of_number (take width from) (take_below width from (drop_below place (bits_of bytes) (bits_of_below bytes))) in
    rw (same, ← drop-drop width place (bits_of bytes)) (take-append-drop width from)

-- a signed row's number is written as it was read
pub signed_row : (bytes : List ℕ) (place width : ℕ) → complement width (signed_of width (field_at bytes place width)) ≡ field_at bytes place width
signed_row bytes place width = signed_writes_back width (field_at bytes place width) (field_below bytes place width)

module _ {A : Type 0} (it : A) where
  pub length_layout : (layout : List (Field A)) → length (layout_bits layout it) ≡ layout_width layout
  length_layout [] = refl
  length_layout (field ∷ fields) = simp (length-append, length_bits) (ap (λ (k : ℕ). field.width + k) (length_layout fields))

  pub layout_below : (layout : List (Field A)) → Below 2 (layout_bits layout it)
  layout_below [] = nil_below (omega arith)
  layout_below (field ∷ fields) = append_below _ _ (bits_below field.width (field.holds it)) (layout_below fields)

  -- what stands behind a layout
  pub behind_layout : (layout : List (Field A)) (place : ℕ) (before back : List ℕ) → drop place before ≡ layout_bits layout it ++ back → drop (place + layout_width layout) before ≡ back
  behind_layout layout place before back stands =
      sym (drop-drop (layout_width layout) place before) ∙ rw stands (drop_at (layout_bits layout it) back (layout_width layout) (length_layout layout))

  -- numbers that fit, written at a place and followed by anything, are read there
  pub layout_reads_back : (layout : List (Field A)) (place : ℕ) (bytes back : List ℕ) → Fits it layout → drop place (bits_of bytes) ≡ layout_bits layout it ++ back
      → layout_numbers layout place bytes ≡ held layout it
  layout_reads_back [] place bytes back no_row stands = refl
  layout_reads_back (field ∷ fields) place bytes back (row fits others) stands =
      let width : ℕ = field.width in
      let number : ℕ = field.holds it in
      let next : List ℕ = layout_bits fields it ++ back in
      let first_stands : drop place (bits_of bytes) ≡ bits width number ++ next = stands ∙ append_assoc (bits width number) (layout_bits fields it) back in
      ap₂ (λ (n : ℕ) (more : List ℕ). n ∷ more) (field_reads_back bytes place width number next fits first_stands)
      (layout_reads_back fields (place + width) bytes back others (behind_field place width number (bits_of bytes) next first_stands))

  -- bits read by a layout, and written again, are those bits
  pub layout_is_written : (layout : List (Field A)) (place : ℕ) (bytes : List ℕ) → place + layout_width layout ≤ 8 * length bytes → layout_numbers layout place bytes ≡ held layout it
      → layout_bits layout it ++ drop (place + layout_width layout) (bits_of bytes) ≡ drop place (bits_of bytes)
  layout_is_written [] place bytes inside same = ap (λ (k : ℕ). drop k (bits_of bytes)) (add-zero place)
  layout_is_written (field ∷ fields) place bytes inside same =
      let width : ℕ = field.width in
      let number_is : field_at bytes place width ≡ field.holds it = ap (λ (l : List ℕ). get_or l 0 0) same in
      let others_are : layout_numbers fields (place + width) bytes ≡ held fields it = ap (λ (l : List ℕ). drop 1 l) same in
      let others : layout_bits fields it ++ drop (place + width + layout_width fields) (bits_of bytes) ≡ drop (place + width) (bits_of bytes) =
      layout_is_written fields (place + width) bytes (omega arith) others_are in
      rw (append_assoc, ← add_assoc, others, ← number_is) (field_in_front bytes place width (omega arith))

  -- the rows written into bits one behind the other, each where it begins
  abbrev pub rows_replaced : List (Field A) → ℕ → List ℕ → List ℕ
  rows_replaced [] place before = before
  rows_replaced (field ∷ fields) place before = rows_replaced fields (place + field.width) (replaced_at place (bits field.width (field.holds it)) before)

  -- give what the layout writes there at once
  pub replaced_by_rows : (layout : List (Field A)) (place : ℕ) (before : List ℕ) → place + layout_width layout ≤ length before
      → rows_replaced layout place before ≡ replaced_at place (layout_bits layout it) before
  replaced_by_rows [] place before inside = sym (rw (add-zero place) (take-append-drop place before))
  replaced_by_rows (field ∷ fields) place before inside =
      let here : List ℕ = bits field.width (field.holds it) in
      let here_long : length here ≡ field.width = length_bits field.width (field.holds it) in
      let as_long : length (replaced_at place here before) ≡ length before = length_replaced place here before (omega arith) in
      replaced_by_rows fields (place + field.width) (replaced_at place here before) (omega arith)
      ∙ replaced_both place (place + field.width) here (layout_bits fields it) before (omega arith) (omega arith)
