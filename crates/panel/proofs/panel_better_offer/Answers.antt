-- `panel::panel_better_offer` meets its contract: the winner's bytes fit a field.
use Rattle.std.proofs.Common.{◌≡◌, sym, arith}
use Rattle.offers.specs.declared.Winner.TheVariants.{First, Second}
use Rattle.offers.specs.Offers.{winner}
use Rattle.offers.proofs.Winners.{first_within, second_within}
use Rattle.panel.proofs.panel_better_offer.Goals as goal

pub overflow_cast-size : goal.overflow_cast-size
overflow_cast-size c =
    let args = c.args in
    let wins : winner args.text.now args.first.now args.second.now ≡ First c.in-First.size = sym c.in-First.ensures in
    record { fits = omega (arith, (first_within args.text.now args.first.now args.second.now wins).few) }

pub overflow_cast-size-in-Second : goal.overflow_cast-size-in-Second
overflow_cast-size-in-Second c =
    let args = c.args in
    let wins : winner args.text.now args.first.now args.second.now ≡ Second c.in-Second.size = sym c.in-Second.ensures in
    record { fits = omega (arith, (second_within args.text.now args.first.now args.second.now wins).few) }
