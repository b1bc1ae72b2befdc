-- The whole record from its four parts: its header, its terms, its special slots and its fill have just the bits that its bytes have.
use mathlib.Core.Path.{◌≡◌, sym, ap, ap₂, ◌∙◌}
use mathlib.Core.List.{List, ◌++◌}
use Prim.Native.Nat.{ℕ, ◌*◌, ◌-◌}
use native.Mathlib.Omega.{arith}
use lib.IntN.{ℤ}
use lib.ListN.{length, take, replicate}
use lib.Seq.{take_at}
use Rattle.bands.specs.declared.SpecialSlot.{SpecialSlot}
use Rattle.bits.specs.Bits.{bits_of, replaced_at}
use Rattle.bits.specs.Inner.{Below}
use Rattle.bits.proofs.Bytes.{length_bits_of, bytes_from_bits}
use Rattle.bits.proofs.Packing.{packed_below}
use Rattle.bits.proofs.Replacing.{replaced_both}
use Rattle.histogram.specs.declared.Term.{Term}
use Rattle.record.specs.Layout.{layout_width}
use Rattle.record.specs.Record.{header_layout, term_layout, header_bits, terms_bits, version_for, specials_bits, record_bits, terms_end, fields_end, record_length, record_bytes}
use Rattle.record.proofs.Entries.{length_entries}
use Rattle.record.proofs.RoundTrips.{length_header, length_record, record_below, written_bits}
use Rattle.record_write.specs.Inner.{filled}

module _ (n band : ℕ) (rest : ℤ) (terms : List Term) (specials : List SpecialSlot) where
  -- the bits of all fields, and how many bytes they take
  abbrev fields : List ℕ
  fields = record_bits n band rest terms specials

  abbrev count : ℕ
  count = record_length (length terms) (length specials)

  pub record_laid : (before headed termed specialed after : List ℕ) → length headed ≡ count → length specialed ≡ count → Below 256 after
      → bits_of headed ≡ replaced_at 0 (header_bits (version_for (length specials)) n band rest (length terms)) (bits_of before)
      → bits_of termed ≡ replaced_at (layout_width header_layout) (terms_bits terms) (bits_of headed)
      → bits_of specialed ≡ replaced_at (terms_end (length terms)) (specials_bits specials) (bits_of termed)
      → bits_of after ≡ filled (fields_end (version_for (length specials)) (length terms) (length specials)) (bits_of specialed)
      → after ≡ record_bytes n band rest terms specials
  record_laid before headed termed specialed after headed-long specialed-long all-bytes header_is terms_are specials_are fill_is =
      let end : ℕ = fields_end (version_for (length specials)) (length terms) (length specials) in
      let long : length fields ≡ end = length_record n band rest terms specials in
      let behind : bits_of specialed ≡ replaced_at (layout_width header_layout) (terms_bits terms ++ specials_bits specials) (bits_of headed) =
      specials_are
      ∙ ap (replaced_at (terms_end (length terms)) (specials_bits specials)) terms_are
      ∙ replaced_both (layout_width header_layout) (terms_end (length terms)) (terms_bits terms) (specials_bits specials) (bits_of headed) (omega (arith, length_bits_of headed)) (omega (arith, length_entries term_layout terms)) in
      let laid : bits_of specialed ≡ replaced_at 0 fields (bits_of before) =
      behind
      ∙ ap (replaced_at (layout_width header_layout) (terms_bits terms ++ specials_bits specials)) header_is
      ∙ replaced_both 0 (layout_width header_layout) (header_bits (version_for (length specials)) n band rest (length terms)) (terms_bits terms ++ specials_bits specials) (bits_of before) (omega arith) (omega (arith, length_header n band rest terms specials)) in
      let kept : take end (bits_of specialed) ≡ fields = ap (take end) laid ∙ take_at fields _ end long in
      let fill_long : length (bits_of specialed) - end ≡ count * 8 - length fields = omega (arith, length_bits_of specialed) in
      bytes_from_bits after (record_bytes n band rest terms specials) all-bytes (packed_below count fields (record_below n band rest terms specials))
      (fill_is ∙ ap₂ (λ (l : List ℕ) (k : ℕ). l ++ replicate k 0) kept fill_long ∙ sym (written_bits n band rest terms specials))
