-- `record_write::put_term` meets its contract: the node and the value behind it are what a term's layout writes.
use mathlib.Core.Path.{◌∙◌}
use native.Mathlib.Omega.{arith}
use mir.Facts.{to_z-of_z}
use Rattle.bits.specs.Bits.{bits_of}
use Rattle.bits.proofs.Bytes.{length_bits_of}
use Rattle.histogram.specs.declared.Term.{Term}
use Rattle.record.specs.Record.{term_layout}
use Rattle.record.proofs.Layouts.{rows_replaced, replaced_by_rows}
use Rattle.record_write.proofs.put_term.Goals as goal

pub returns : goal.returns
returns c =
    let a = c.args in
    let term : Term = record { node = a.node; value = a.value } in
    let before = bits_of a.bytes.now in
    let next = c.after-value_place.ensures in
    let value = rw (to_z-of_z c.ranges.value, next, c.write.ensures) at c.write_signed.ensures in
    record {
      next_is = omega (arith, c.after.ensures, next);
      bits_are =
          ◌∙◌ {b = rows_replaced term term_layout a.place.at before} value
          (replaced_by_rows term term_layout a.place.at before (omega (arith, length_bits_of a.bytes.now, c.requires.1.room)));
    }
