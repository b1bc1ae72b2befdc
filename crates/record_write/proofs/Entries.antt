-- Entries of one layout, written one after another. The law: an entry that is written is the first of those that were left, so writing the others behind it gives what was to come.
use mathlib.Core.Path.{◌≡◌}
use mathlib.Core.List.{List, [], ◌∷◌}
use Prim.Native.Nat.{ℕ, ◌+◌, ◌≤◌}
use native.Mathlib.Omega.{arith}
use lib.ListN.{length, take-append-drop}
use Rattle.bits.specs.Bits.{bits_of, replaced_at}
use Rattle.bits.proofs.Replacing.{replaced_both}
use Rattle.record.specs.Layout.{Field, layout_bits, entries_bits}
use Rattle.record.proofs.Layouts.{length_layout}
use Rattle.record_write.specs.Inner.{EntryPut}

module _ {A : Type 0} (layout : List (Field A)) where
  pub first_written : (entry : A) (others : List A) {place next : ℕ} {now after : List ℕ} → place ≤ length (bits_of now) → EntryPut layout entry place next now after
      → replaced_at next (entries_bits layout others) (bits_of after) ≡ replaced_at place (entries_bits layout (entry ∷ others)) (bits_of now)
  unfolding entries_bits
  first_written entry others {place} {next} {now} within put =
      let behind : place + length (layout_bits layout entry) ≡ next = omega (arith, put.next_is, length_layout entry layout) in
      rw put.bits_are (replaced_both place next (layout_bits layout entry) (entries_bits layout others) (bits_of now) within behind)

  pub none_to_write : (place : ℕ) (before : List ℕ) → replaced_at place (entries_bits layout []) before ≡ before
  unfolding entries_bits
  none_to_write place before = let no-further : place + length {A = ℕ} [] ≡ place = omega arith in rw no-further (take-append-drop place before)
