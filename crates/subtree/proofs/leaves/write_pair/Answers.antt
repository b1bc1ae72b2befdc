-- `subtree::leaves::write_pair` meets its contract.
use mir.Facts.{to_z-of_z}
use Rattle.subtree.proofs.Pairs.{pair_solved}
use Rattle.subtree.proofs.leaves.write_pair.Goals as goal

pub returns : goal.returns
returns c =
    let left = rw (to_z-of_z c.ranges.left) at c.slot_ends-left_ends.ensures in
    let right = rw (to_z-of_z c.ranges.right) at c.slot_ends-right_ends.ensures in
    pair_solved _ _ c.args.left c.args.right _ _ _ _ _ _ left right c.write_leaves.ensures c.combine_singles.ensures
