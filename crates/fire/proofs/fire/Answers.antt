-- `fire::fire` is safe and ends.
use Rattle.profile.proofs.Accepted.{held}
use Rattle.panel.proofs.Texts.{room_known}
use Rattle.fire.proofs.fire.Goals as goal

pub fire_profile-requires : goal.fire_profile-requires
fire_profile-requires g c = room_known (held c.in-Ok.ensures)
