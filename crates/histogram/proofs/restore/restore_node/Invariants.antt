-- `histogram::restore::restore_node` meets its contract. The invariant: what is left of the way up restores what the whole way from the node does.
use Rattle.std.proofs.Common.{◌≡◌, ◌+◌, ◌-◌}
use Rattle.histogram.specs.Terms.{paired}
use Rattle.histogram.specs.Restored.{restored, restored_at}
use Rattle.histogram.proofs.restore.restore_node.Given as goal

abbrev pub invariant-loop : goal.invariant-loop
invariant-loop l = restored_at l.rest (paired l.nodes l.values) l.node ≡ restored l.rest (paired l.nodes l.values) (l.end + 1 - l.counter) l.above
