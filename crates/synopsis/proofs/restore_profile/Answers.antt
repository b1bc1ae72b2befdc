-- `synopsis::restore_profile` meets its contract.
use mir.Facts.{to_z-of_z}
use Rattle.synopsis.proofs.Many.{profile_restored}
use Rattle.synopsis.proofs.restore_profile.Goals as goal

pub returns : goal.returns
returns c =
    let said = rw (to_z-of_z c.ranges.rest) at c.restore_profile.ensures in
    profile_restored c.args.terms.now c.take_apart-count.ensures.together_are said
