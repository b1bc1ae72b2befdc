-- `record_read::read_terms` meets its contract. The invariant is `ReadSoFar`.
use Rattle.record_read.proofs.Terms.{ReadSoFar}
use Rattle.record_read.proofs.read_terms.Given as goal

abbrev pub invariant-loop-i : goal.invariant-loop-i
invariant-loop-i l = ReadSoFar l.bytes l.count l.initial.nodes l.nodes l.initial.values l.values l.place.at l.i
