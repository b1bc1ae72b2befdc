-- `bands::spread` meets its contract: over the common band everywhere, each special slot's own band is put.
use lib.ListN.{length}
use Rattle.bands.proofs.Put.{put_over}
use Rattle.bands.proofs.spread.Goals as goal

pub returns : goal.returns
returns c = put_over (length c.args.bands.now) c.args.common c.fill.ensures c.put_own.ensures
