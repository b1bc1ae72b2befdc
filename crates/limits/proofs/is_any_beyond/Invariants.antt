-- `limits::is_any_beyond` meets its contract. The invariant: none of the setpoints so far lies beyond, so the others decide.
use Rattle.std.proofs.Common.{◌≡◌}
use lib.ListN.{drop}
use Rattle.limits.specs.Limits.{any_beyond}
use Rattle.limits.proofs.is_any_beyond.Given as goal

abbrev pub invariant-loop-setpoint : goal.invariant-loop-setpoint
invariant-loop-setpoint l = any_beyond l.setpoints ≡ any_beyond (drop l.setpoint-index l.setpoints)
