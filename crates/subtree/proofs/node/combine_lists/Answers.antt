-- `subtree::node::combine_lists` meets its contract.
use native.Mathlib.Omega.{arith}
use Rattle.subtree.proofs.Combining.{combined_apart, count_few, combined_meeting}
use Rattle.subtree.proofs.node.combine_lists.Goals as goal

pub write_header-requires-else-rest-eq0 : goal.write_header-requires-else-rest-eq0
write_header-requires-else-rest-eq0 c =
    let few = count_few c.args.numbers c.requires.0.placed c.write_join-rest.ensures c.write_meet-count.ensures in
    (omega arith, omega arith, omega arith)

pub returns-then-rest-eq0 : goal.returns-then-rest-eq0
returns-then-rest-eq0 c = combined_apart c.args.numbers c.requires.0.placed c.write_join-rest.ensures c.if-rest-eq0.true c.write_header.ensures

pub returns-else-rest-eq0 : goal.returns-else-rest-eq0
returns-else-rest-eq0 c = combined_meeting c.args.numbers c.requires.0.placed c.write_join-rest.ensures c.write_meet-count.ensures (omega arith) c.write_header-else-rest-eq0.ensures
