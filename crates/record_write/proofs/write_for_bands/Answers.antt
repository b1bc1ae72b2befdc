-- `record_write::write_for_bands` meets its contract: 6, or the record laid over the destination's front.
use lib.Seq.{length-take-le}
use mir.Facts.{to_z-of_z}
use Rattle.std.proofs.Common.{◌∙◌}
use Rattle.record_write.proofs.Ready.{counted, long_by_lists, fits_just, too_short, record_over}
use Rattle.record_write.proofs.write_for_bands.Goals as goal

pub record_length-count-requires : goal.record_length-count-requires
record_length-count-requires c = counted c.requires

pub returns-then-destination-count : goal.returns-then-destination-count
returns-then-destination-count c =
    let a = c.args in
    let long = long_by_lists c.requires (rw c.version_for.ensures at c.record_length-count.ensures) in
    too_short a.slots a.band a.rest _ _ a.destination.now (rw long at c.if-destination-count.true)

pub put_record-requires : goal.put_record-requires
put_record-requires c =
    fits_just c.requires _ (length-take-le _ c.args.destination.now c.if-destination-count.false ∙ (rw c.version_for.ensures at c.record_length-count.ensures))

pub returns : goal.returns
returns c =
    let a = c.args in
    let long = long_by_lists c.requires (rw c.version_for.ensures at c.record_length-count.ensures) in
    record_over a.slots a.band a.rest _ _ a.destination.now c.record_length-count.result c.put_record.new.bytes
    long c.if-destination-count.false (rw (to_z-of_z c.ranges.rest) at c.put_record.ensures)
