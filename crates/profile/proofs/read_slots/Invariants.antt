-- `profile::read_slots` meets its contract. The invariant is `SoFar` of `Slots`; the measure is what is left of the text.
use Prim.Native.Nat.{◌-◌}
use lib.ListN.{length}
use Rattle.profile.proofs.Slots.{SoFar}
use Rattle.profile.proofs.read_slots.Given as goal

abbrev pub invariant-loop-at : goal.invariant-loop-at
invariant-loop-at l = SoFar l.common l.text l.from l.initial.setpoints l.setpoints l.initial.bands l.bands l.at l.count l.specials

abbrev pub decreases-loop-at : goal.decreases-loop-at
decreases-loop-at l = length l.text - l.at
