-- `record_write::put_own_bands` meets its contract. The invariant, `WrittenUpTo`: the special slots before `slot` are written, `place` is the bit behind them,
use Rattle.record_write.proofs.Specials.{WrittenUpTo}
use Rattle.record_write.proofs.put_own_bands.Given as goal

abbrev pub invariant-loop-slot : goal.invariant-loop-slot
invariant-loop-slot l = WrittenUpTo l.initial.place.at l.common l.bands l.initial.bytes l.bytes l.place.at l.slot
