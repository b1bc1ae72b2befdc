use Rattle.std.proofs.Common.{rules, to_z-of_z}
use Rattle.histogram.proofs.Handing.{handed_rest, handed_own, handed_above, handed_down}
use Rattle.histogram.proofs.restore.hand_down.Goals as goal
use Rattle.histogram.proofs.restore.hand_down.Goals.{in-Some, in_default}

pub loop-node-init : goal.loop-node-init
loop-node-init c = handed_rest _ _ _ _ _ c.requires

pub loop-node-preserved : goal.loop-node-preserved
loop-node-preserved c = elim c.match-feed.branch [
  | in-Some w ↦
      let on = handed_own c.loop-node.invariant c.requires.same_length c.loop-node-test.true (w.in-Some.ensures) in search rules
  | in_default w ↦
      let on = handed_above c.loop-node.invariant c.requires.same_length c.loop-node-test.true (w.in_default.ensures) in search rules
]

pub returns : goal.returns
returns c = rw (to_z-of_z c.ranges.rest) at (handed_down {before = c.args.restored.now} c.loop-node.invariant c.loop-node-test.false)
