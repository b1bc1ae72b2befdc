-- `verdict::compare` meets its contract. The invariant is `SoFar` of `Compared`.
use Rattle.verdict.proofs.Compared.{SoFar}
use Rattle.verdict.proofs.compare.Given as goal

abbrev pub invariant-loop-slot : goal.invariant-loop-slot
invariant-loop-slot l = SoFar l.setpoints l.restored l.bands l.greatest l.least l.slot
