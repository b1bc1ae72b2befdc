use Rattle.std.proofs.Common.{rules, tests, arith, ◌≡◌, ◌∙◌, false, ◌<◌, pos, get_or, drop_of_length-le}
use Rattle.limits.specs.Limits.{beyond}
use Rattle.histogram.specs.Terms.{paired, valid_from}
use Rattle.histogram.proofs.Paired.{valid_there, valid_onwards}
use Rattle.histogram.proofs.terms.is_valid.Goals as goal

pub returns-then-node-last : goal.returns-then-node-last
returns-then-node-last c =
    let turn = c.loop-i.invariant ∙ valid_there c.args.nodes.now c.args.values.now c.loop-i.i c.requires c.loop-i-test.true c.loop-i.last c.args.end in
    grind (arith, tests, turn)

pub returns-then-is_beyond : goal.returns-then-is_beyond
returns-then-is_beyond c =
    let turn = c.loop-i.invariant ∙ valid_there c.args.nodes.now c.args.values.now c.loop-i.i c.requires c.loop-i-test.true c.loop-i.last c.args.end in
    grind (arith, tests, turn)

pub loop-i-preserved : goal.loop-i-preserved
loop-i-preserved c =
    let nodes = c.args.nodes.now in
    let values = c.args.values.now in
    let i = c.loop-i.i in
    let above : c.loop-i.last < get_or nodes i 0 = search rules in
    let below : get_or nodes i 0 < c.args.end = search rules in
    let within : beyond 20000 (get_or values i (pos 0)) ≡ false = search rules in
    rw c.from-node.ensures (c.loop-i.invariant ∙ valid_onwards nodes values i c.requires c.loop-i-test.true c.loop-i.last c.args.end above below within)

pub returns : goal.returns
unfolding paired valid_from
returns c = rw (c.loop-i.invariant, drop_of_length-le c.args.nodes.now c.loop-i-test.false)
