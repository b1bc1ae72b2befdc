-- `bands::is_right` meets its contract. The invariant: the special slots are right exactly where those from i on are, behind the last slot seen.
use Rattle.std.proofs.Common.{◌≡◌}
use Rattle.bands.specs.Bands.{special_slots, right_from}
use Rattle.bands.proofs.Lent.{onwards}
use Rattle.bands.proofs.is_right.Given as goal

abbrev pub invariant-loop-i : goal.invariant-loop-i
invariant-loop-i l = right_from 0 l.slots l.common (special_slots l.specials l.own) ≡ right_from l.first l.slots l.common (onwards l.specials l.own l.i)
