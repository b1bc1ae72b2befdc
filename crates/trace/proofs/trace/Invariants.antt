-- `trace::trace` meets its contract. The invariant is `LevelsSince`.
use Rattle.trace.proofs.AllLevels.{LevelsSince}
use Rattle.trace.proofs.trace.Given as goal

abbrev pub invariant-loop-depth : goal.invariant-loop-depth
invariant-loop-depth l = LevelsSince l.scratch l.height l.value l.initial.nodes l.nodes l.initial.values l.values l.initial.count l.count l.depth
