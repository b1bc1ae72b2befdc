-- `histogram::terms::is_valid` meets its contract. The invariant: the list is valid exactly where the terms from i on are, above the last node seen.
use Rattle.std.proofs.Common.{◌≡◌}
use Rattle.histogram.specs.Terms.{paired, valid_from}
use Rattle.histogram.proofs.Paired.{onwards}
use Rattle.histogram.proofs.terms.is_valid.Given as goal

abbrev pub invariant-loop-i : goal.invariant-loop-i
invariant-loop-i l = valid_from 0 l.end (paired l.nodes l.values) ≡ valid_from l.last l.end (onwards l.nodes l.values l.i)
