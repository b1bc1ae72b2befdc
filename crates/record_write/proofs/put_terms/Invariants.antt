-- `record_write::put_terms` meets its contract. The invariant, `WrittenSoFar`: the first i terms are written, `place` is the bit behind them,
use Rattle.record_write.proofs.Terms.{WrittenSoFar}
use Rattle.record_write.proofs.put_terms.Given as goal

abbrev pub invariant-loop-i : goal.invariant-loop-i
invariant-loop-i l = WrittenSoFar l.nodes l.values l.initial.bytes l.bytes l.place.at l.i
