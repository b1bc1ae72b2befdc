-- `subtree::plan` meets its contract.
use Rattle.subtree.proofs.Places.{planned}
use Rattle.subtree.proofs.plan.Goals as goal

pub returns : goal.returns
returns c = planned c.args.height c.power_of_two-half.result c.places_of-child.result c.requires.0 c.requires.1 c.power_of_two-half.ensures.0 c.places_of-child.ensures.0
