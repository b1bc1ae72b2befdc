-- `bands::least` meets its contract. The invariant: it is the least of the bands before `slot`.
use Rattle.bands.specs.Inner.{Least}
use Rattle.bands.proofs.least.Given as goal

abbrev pub invariant-loop-slot : goal.invariant-loop-slot
invariant-loop-slot l = Least l.bands l.slot l.least
