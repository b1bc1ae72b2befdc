-- `offers::better_offer` meets its contract: the winner's bytes lie in its buffer.
use Rattle.std.proofs.Common.{sym, ◌∙◌}
use lib.Seq.{length-take-le}
use Rattle.offers.proofs.Winners.{first_within, second_within}
use Rattle.offers.proofs.better_offer.Goals as goal

pub slice_bounds-result-end-in-First : goal.slice_bounds-result-end-in-First
slice_bounds-result-end-in-First c =
    let args = c.args in
    sym (length-take-le _ _ (first_within args.text.now args.first.now args.second.now (sym c.choose_offer.ensures ∙ c.in-First.is)).inside)

pub slice_bounds-result-end-in-Second : goal.slice_bounds-result-end-in-Second
slice_bounds-result-end-in-Second c =
    let args = c.args in
    sym (length-take-le _ _ (second_within args.text.now args.first.now args.second.now (sym c.choose_offer.ensures ∙ c.in-Second.is)).inside)
