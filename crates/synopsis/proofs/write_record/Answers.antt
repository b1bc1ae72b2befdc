-- `synopsis::write_record` meets its contract.
use mir.Facts.{to_z-of_z}
use Rattle.synopsis.proofs.Many.{record_written}
use Rattle.synopsis.proofs.write_record.Goals as goal

pub returns : goal.returns
returns c =
    let said = rw (to_z-of_z c.ranges.rest, to_z-of_z c.ranges.band) at c.write_record.ensures in
    record_written c.args.terms.now c.take_apart-count.ensures.together_are c.args.specials.now c.take_apart-special_count.ensures.together_are said
