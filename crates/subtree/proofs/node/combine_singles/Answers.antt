-- `subtree::node::combine_singles` meets its contract.
use Rattle.subtree.proofs.Pairs.{singles_meet, right_lower, left_lower}
use Rattle.subtree.proofs.node.combine_singles.Goals as goal

pub returns-then-low-high : goal.returns-then-low-high
returns-then-low-high c = singles_meet _ _ _ _ _ _ _ c.max-low.ensures c.min-high.ensures _ _ c.if-low-high.true c.write_single.ensures

pub returns-then-right-left : goal.returns-then-right-left
returns-then-right-left c = right_lower _ _ _ _ _ _ _ c.max-low.ensures c.min-high.ensures _ _ c.if-low-high.false c.if-right-left.true c.write_double.ensures

pub returns-else-right-left : goal.returns-else-right-left
returns-else-right-left c = left_lower _ _ _ _ _ _ _ c.max-low.ensures c.min-high.ensures _ _ c.if-low-high.false c.if-right-left.false c.write_double-else-right-left.ensures
