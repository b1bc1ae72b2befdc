use Rattle.std.proofs.Common.{rules, arith, ◌≡◌, ap, ℕ, ◌+◌, ◌-◌, to_z, of_z, w16}
use Rattle.histogram.specs.Terms.{paired}
use Rattle.histogram.specs.Restored.{restored, path_nodes}
use Rattle.histogram.proofs.Above.{path_of_node}
use Rattle.histogram.proofs.Lookup.{way_ends, way_goes_on}
use Rattle.histogram.proofs.Powers.{level_in_tree}
use Rattle.histogram.proofs.restore.restore_node.Goals as goal

pub loop-init : goal.loop-init
loop-init c =
    let whole_way : path_nodes c.args.node ≡ c.level-end.result + 1 - 0 = omega (arith, path_of_node c.args.node c.requires.from_root, level_in_tree c.requires.in_tree) in
    ap (λ (count : ℕ). restored (to_z w16 (of_z w16 c.args.rest)) (paired c.args.nodes.now c.args.values.now) count c.args.node) whole_way

pub returns-in-Some : goal.returns-in-Some
returns-in-Some c =
    let value_is = way_ends _ c.args.nodes.now c.args.values.now c.args.node c.requires.same_length (omega arith) c.loop.invariant (c.in-Some.ensures) in
    search rules

pub loop-preserved : goal.loop-preserved
loop-preserved c =
    let so_far = way_goes_on _ c.args.nodes.now c.args.values.now c.args.node c.requires.same_length (omega arith) c.loop.invariant (c.in_default.ensures) in
    search rules

pub returns-in_default : goal.returns-in_default
unfolding restored
returns-in_default c =
    let so_far = way_goes_on _ c.args.nodes.now c.args.values.now c.args.node c.requires.same_length (omega arith) c.loop.invariant (c.in_default.ensures) in
    search rules
