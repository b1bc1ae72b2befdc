-- `synopsis::pairs::put_together` meets its contract. The invariant: the first i are laid over the front of the slice.
use Rattle.limits.proofs.Laying.{LaidSoFar}
use Rattle.synopsis.proofs.pairs.put_together.Given as goal

abbrev pub invariant-loop-i : goal.invariant-loop-i
invariant-loop-i g l = LaidSoFar (g.P.Pair.together l.firsts l.seconds) l.initial.pairs l.pairs l.i
