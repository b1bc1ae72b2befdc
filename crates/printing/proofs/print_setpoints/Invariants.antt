-- `printing::print_setpoints` meets its contract. The invariant: the setpoints before this one are printed.
use Rattle.std.proofs.Common.{take}
use Rattle.std.specs.List.{flat_map}
use Rattle.std.specs.Io.KnownBytes.{Appends}
use Rattle.printing.specs.Printed.{setpoint_text}
use Rattle.printing.proofs.print_setpoints.Given as goal

abbrev pub invariant-loop-setpoint : goal.invariant-loop-setpoint
invariant-loop-setpoint g l = Appends (g.W.Write.contents l.initial.out) (g.W.Write.contents l.out) (flat_map setpoint_text (take l.setpoint-index l.setpoints))
