-- `histogram::restore::hand_down` meets its contract. The invariant, `Handed`: every place below the node holds the value restored there.
use Rattle.histogram.proofs.Handing.{Handed}
use Rattle.histogram.proofs.restore.hand_down.Given as goal

abbrev pub invariant-loop-node : goal.invariant-loop-node
invariant-loop-node l = Handed l.rest l.nodes l.values l.end l.initial.restored l.restored l.next l.node
