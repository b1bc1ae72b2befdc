-- `printing::print_bytes` meets its contract. The invariant: the bytes before this one are printed.
use Rattle.std.proofs.Common.{take}
use Rattle.std.specs.List.{flat_map}
use Rattle.std.specs.Io.KnownBytes.{Appends}
use Rattle.printing.specs.Printed.{byte_text}
use Rattle.printing.proofs.print_bytes.Given as goal

abbrev pub invariant-loop-byte : goal.invariant-loop-byte
invariant-loop-byte g l = Appends (g.W.Write.contents l.initial.out) (g.W.Write.contents l.out) (flat_map byte_text (take l.byte-index l.bytes))
