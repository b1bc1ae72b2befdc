-- `record_write::put_header` meets its contract: five fields, each behind the one before, are the header.
use mathlib.Core.Path.{◌∙◌}
use native.Mathlib.Omega.{arith}
use mir.Facts.{to_z-of_z}
use Rattle.bits.specs.Bits.{bits_of}
use Rattle.bits.proofs.Bytes.{length_bits_of}
use Rattle.record.specs.Record.{Header, header_layout}
use Rattle.record.proofs.Layouts.{rows_replaced, replaced_by_rows}
use Rattle.record_write.proofs.put_header.Goals as goal

pub returns : goal.returns
returns c =
    let a = c.args in
    let at = c.places-places.ensures in
    let header : Header = record { version = a.version; slots = a.slots; band = a.band; rest = a.rest; count = a.count } in
    let version = rw c.start.ensures at c.write.ensures in
    let length = rw (at.of_length, version) at c.write-2.ensures in
    let band = rw (at.of_band, length) at c.write-3.ensures in
    let rest = rw (at.of_rest, to_z-of_z c.ranges.rest, band) at c.write_signed.ensures in
    let count = rw (at.of_count, rest) at c.write-4.ensures in
    let before = bits_of a.bytes.now in
    ◌∙◌ {b = rows_replaced header header_layout 0 before} count (replaced_by_rows header header_layout 0 before (omega (arith, length_bits_of a.bytes.now, c.requires.room)))
