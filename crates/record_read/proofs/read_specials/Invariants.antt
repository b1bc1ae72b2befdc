-- `record_read::read_specials` meets its contract. The invariant is `ReadUpTo`.
use Rattle.record_read.proofs.Specials.{ReadUpTo}
use Rattle.record_read.proofs.read_specials.Given as goal

abbrev pub invariant-loop : goal.invariant-loop
invariant-loop l = ReadUpTo l.bytes l.initial.place.at l.specials l.common l.initial.bands l.bands l.place.at l.least l.counter
