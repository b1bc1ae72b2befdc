-- `histogram::terms::padded_length` meets its contract. The invariant: the length is what doubling has come to. The measure is what it lacks of `slots`.
use Prim.Native.Nat.{ℕ, ◌-◌}
use Rattle.histogram.proofs.Doubling.{Doubled}
use Rattle.histogram.proofs.terms.padded_length.Given as goal

abbrev pub invariant-loop-length : goal.invariant-loop-length
invariant-loop-length l = (times : ℕ) × Doubled l.slots times l.length

abbrev pub decreases-loop-length : goal.decreases-loop-length
decreases-loop-length l = l.slots - l.length
