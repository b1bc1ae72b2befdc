-- The invariant of `build::tree::height_over`: the leaves are what so many doublings have come to. The measure is what they lack of `slots`.
use Prim.Native.Nat.{◌-◌}
use Rattle.histogram.proofs.Doubling.{Doubled}
use Rattle.build.proofs.tree.height_over.Given as goal

abbrev pub invariant-loop-leaves : goal.invariant-loop-leaves
invariant-loop-leaves l = Doubled l.slots l.height l.leaves

abbrev pub decreases-loop-leaves : goal.decreases-loop-leaves
decreases-loop-leaves l = l.slots - l.leaves
