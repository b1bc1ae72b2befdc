-- `build::tree::Tree::greatest_margin_within` meets its contract. The invariant: the margin `low` needs few enough terms, and the one above `high` too many.
use Prim.Native.Nat.{◌-◌}
use Rattle.build.proofs.Halving.{Between}
use Rattle.build.proofs.tree.Tree.greatest_margin_within.Given as goal

abbrev pub invariant-loop-low : goal.invariant-loop-low
invariant-loop-low l = Between l.self.height l.self.value l.budget l.top l.self.setpoints.now l.self.bands.now l.initial.scratch l.scratch l.low l.high l.solved

abbrev pub decreases-loop-low : goal.decreases-loop-low
decreases-loop-low l = l.high - l.low
