-- `offers::choose_offer` meets its contract: a text that is not refused holds a profile to choose for.
use Rattle.std.proofs.Common.{sym}
use lib.Seq.{length-take-le}
use Rattle.profile.proofs.Accepted.{accepted, as_many_bands, held}
use Rattle.offers.proofs.choose_offer.Goals as goal

pub choose_for-requires : goal.choose_for-requires
choose_for-requires c =
    let of_text = held c.in-Ok.ensures in
    let sound = accepted c.args.text.now of_text.not_refused in
    rw (of_text.setpoints_are, of_text.bands_are, of_text.band_is)
    (record { slots_inside = sound.slots_inside; setpoints_near = sound.setpoints_near; each_band = as_many_bands c.args.text.now; specials_are = of_text.specials_is })
