-- Entries of one layout, one behind the other: both round trips of a list of entries, from those of one entry.
use mathlib.Core.Path.{◌≡◌, refl, sym, ap, ap₂, ◌∙◌}
use mathlib.Core.List.{List, [], ◌∷◌, ◌++◌, map, append_assoc}
use Prim.Native.Nat.{ℕ, zero, suc, ◌+◌, ◌*◌, ◌≤◌, ◌<◌}
use native.Mathlib.Nat.{mul-zero, mul-suc}
use native.Mathlib.Omega.{arith}
use lib.ListN.{length, get_or, drop, length-append}
use Rattle.bits.specs.Bits.{bits_of}
use Rattle.bits.specs.Inner.{Below}
use Rattle.bits.proofs.Numbers.{nil_below, append_below}
use Rattle.record.specs.Layout.{Field, layout_width, layout_bits, layout_numbers, held, entries_bits, entries_from}
use Rattle.record.proofs.Layouts.{length_layout, layout_below, behind_layout, layout_is_written}

module _ {A : Type 0} (layout : List (Field A)) where
  pub length_entries : (entries : List A) → length (entries_bits layout entries) ≡ layout_width layout * length entries
  unfolding entries_bits
  length_entries [] = sym (mul-zero (layout_width layout))
  length_entries (entry ∷ entries) =
      omega (arith, length-append (layout_bits layout entry) (entries_bits layout entries), length_layout entry layout, length_entries entries, mul-suc (layout_width layout) (length entries))

  pub entries_below : (entries : List A) → Below 2 (entries_bits layout entries)
  unfolding entries_bits
  entries_below [] = nil_below (omega arith)
  entries_below (entry ∷ entries) = append_below _ _ (layout_below entry layout) (entries_below entries)

  -- behind one entry and i more
  further : (place i : ℕ) → place + layout_width layout + layout_width layout * i ≡ place + layout_width layout * suc i
  further place i = omega (arith, mul-suc (layout_width layout) i)

  none_further : (place : ℕ) → place + layout_width layout * 0 ≡ place
  none_further place = omega (arith, mul-zero (layout_width layout))

  module _ (read : ℕ → List ℕ → A) where
    pub length_from : (count place : ℕ) (bytes : List ℕ) → length (entries_from layout read count place bytes) ≡ count
    unfolding entries_from
    length_from zero place bytes = refl
    length_from (suc count) place bytes = ap suc (length_from count (place + layout_width layout) bytes)

    -- entry i stands behind i entries
    pub entry_at : {B : Type 0} (part : A → B) (none : B) (count i place : ℕ) (bytes : List ℕ) → i < count
        → get_or (map part (entries_from layout read count place bytes)) i none ≡ part (read (place + layout_width layout * i) bytes)
    unfolding entries_from
    entry_at part none zero i place bytes inside = absurd (omega arith)
    entry_at part none (suc count) zero place bytes inside = ap (λ (at : ℕ). part (read at bytes)) (sym (none_further place))
    entry_at part none (suc count) (suc i) place bytes inside =
        entry_at part none count i (place + layout_width layout) bytes (omega arith) ∙ ap (λ (at : ℕ). part (read at bytes)) (further place i)

    -- an entry that is read from where it was written, whatever follows it
    pub record ReadsBack (entry : A) : Type 0 where
      pub reads : (place : ℕ) (bytes back : List ℕ) → drop place (bits_of bytes) ≡ layout_bits layout entry ++ back → read place bytes ≡ entry

    pub data AllReadBack : List A → Type 0 where
      none_left : AllReadBack []
      and_more : {entry : A} {entries : List A} → ReadsBack entry → AllReadBack entries → AllReadBack (entry ∷ entries)

    -- such entries, written at a place and followed by anything, are read there
    pub entries_read_back : (entries : List A) (place : ℕ) (bytes back : List ℕ) → AllReadBack entries → drop place (bits_of bytes) ≡ entries_bits layout entries ++ back
        → entries_from layout read (length entries) place bytes ≡ entries
    unfolding entries_bits entries_from
    entries_read_back [] place bytes back none_left stand = refl
    entries_read_back (entry ∷ entries) place bytes back (and_more first others) stand =
        let first_stands : drop place (bits_of bytes) ≡ layout_bits layout entry ++ (entries_bits layout entries ++ back) = stand ∙ append_assoc (layout_bits layout entry) (entries_bits layout entries) back in
        ap₂ (λ (e : A) (es : List A). e ∷ es) (first.reads place bytes _ first_stands)
        (entries_read_back entries (place + layout_width layout) bytes back others (behind_layout entry layout place (bits_of bytes) _ first_stands))

    -- entries read from bits, and written again, are those bits
    module _ (exact : (place : ℕ) (bytes : List ℕ) → layout_numbers layout place bytes ≡ held layout (read place bytes)) where
      pub entries_are_written : (count place : ℕ) (bytes : List ℕ) → place + layout_width layout * count ≤ 8 * length bytes
          → entries_bits layout (entries_from layout read count place bytes) ++ drop (place + layout_width layout * count) (bits_of bytes) ≡ drop place (bits_of bytes)
      unfolding entries_bits entries_from
      entries_are_written zero place bytes inside = ap (λ (at : ℕ). drop at (bits_of bytes)) (none_further place)
      entries_are_written (suc count) place bytes inside =
          let next : ℕ = place + layout_width layout in
          rw (append_assoc (layout_bits layout (read place bytes)), ← further place count, entries_are_written count next bytes (omega (arith, further place count)))
          (layout_is_written (read place bytes) layout place bytes (omega (arith, further place count)) (exact place bytes))
