-- `subtree::leaves::write_leaf` meets its contract.
use mir.Facts.{to_z-of_z}
use Rattle.subtree.proofs.LeafAnswers.{leaf_solved}
use Rattle.subtree.proofs.leaves.write_leaf.Goals as goal

pub returns : goal.returns
returns c = leaf_solved _ c.args.setpoint _ _ _ c.write_single.new.scratch (rw (to_z-of_z c.ranges.setpoint) at c.slot_ends.ensures) c.write_single.ensures
