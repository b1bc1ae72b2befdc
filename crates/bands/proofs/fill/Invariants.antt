-- `bands::fill` meets its contract. The invariant: the common band is laid over the slots before `slot`.
use mathlib.Core.List.{[]}
use lib.ListN.{length}
use Rattle.limits.proofs.Laying.{LaidSoFar}
use Rattle.bands.specs.Bands.{slot_bands}
use Rattle.bands.proofs.fill.Given as goal

abbrev pub invariant-loop-slot : goal.invariant-loop-slot
invariant-loop-slot l = LaidSoFar (slot_bands (length l.initial.bands) l.common []) l.initial.bands l.bands l.slot
