-- `subtree::leaves::write_leaves` meets its contract.
use Rattle.subtree.proofs.Pairs.{both_written}
use Rattle.subtree.proofs.leaves.write_leaves.Goals as goal

pub returns-then-min-max : goal.returns-then-min-max
returns-then-min-max c = both_written _ _ _ _ _ _ _ c.write_single.ensures c.write_single-then-min-max.ensures
