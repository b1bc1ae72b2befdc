-- `windows::write_join` meets its contract. The invariant is `JoinSoFar`; the measure is the number of windows left in both lists.
use Prim.Native.Nat.{◌+◌}
use Rattle.windows.proofs.Joining.{JoinSoFar}
use Rattle.windows.proofs.write_join.Given as goal

abbrev pub invariant-loop-rest : goal.invariant-loop-rest
invariant-loop-rest l = JoinSoFar l.initial.scratch l.initial.rest.left l.initial.rest.lefts l.initial.rest.right l.initial.rest.rights l.scratch l.rest.left l.rest.lefts l.rest.right l.rest.rights l.count

abbrev pub decreases-loop-rest : goal.decreases-loop-rest
decreases-loop-rest l = l.rest.lefts + l.rest.rights
