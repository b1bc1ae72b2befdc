-- `synopsis::pairs::take_apart` meets its contract. The invariant: the parts of the first i are laid over the fronts of the room.
use Rattle.synopsis.proofs.Parting.{ApartSoFar}
use Rattle.synopsis.proofs.pairs.take_apart.Given as goal

abbrev pub invariant-loop-i : goal.invariant-loop-i
invariant-loop-i g l = ApartSoFar g.P.Pair.first_of g.P.Pair.second_of l.pairs l.count l.initial.firsts l.firsts l.initial.seconds l.seconds l.i
