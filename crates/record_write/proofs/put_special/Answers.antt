-- `record_write::put_special` meets its contract: the slot and the band behind it are what a special slot's layout writes.
use mathlib.Core.Path.{◌∙◌}
use native.Mathlib.Omega.{arith}
use Rattle.bands.specs.declared.SpecialSlot.{SpecialSlot}
use Rattle.bits.specs.Bits.{bits_of}
use Rattle.bits.proofs.Bytes.{length_bits_of}
use Rattle.record.specs.Record.{special_layout}
use Rattle.record.proofs.Layouts.{rows_replaced, replaced_by_rows}
use Rattle.record_write.proofs.put_special.Goals as goal

pub returns : goal.returns
returns c =
    let a = c.args in
    let special : SpecialSlot = record { slot = a.slot; band = a.band } in
    let before = bits_of a.bytes.now in
    let next = c.after-band_place.ensures in
    let band = rw (next, c.write.ensures) at c.write-2.ensures in
    record {
      next_is = omega (arith, c.after.ensures, next);
      bits_are =
          ◌∙◌ {b = rows_replaced special special_layout a.place.at before} band
          (replaced_by_rows special special_layout a.place.at before (omega (arith, length_bits_of a.bytes.now, c.requires.1.room)));
    }
