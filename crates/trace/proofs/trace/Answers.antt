use native.Mathlib.Omega.{arith}
use Rattle.trace.proofs.AllLevels.{turn_fits, turn_traced, all_levels}
use Rattle.trace.proofs.Stretches.{answered}
use Rattle.trace.proofs.trace.Goals as goal

pub hand_on-next-requires : goal.hand_on-next-requires
hand_on-next-requires c = answered c.requires.stretch

pub trace_level-count-requires : goal.trace_level-count-requires
trace_level-count-requires c =
    let so_far = c.loop-depth.invariant in
    (so_far.deeper, turn_fits c.requires c.hand_on-next.ensures so_far.deeper (omega arith) (so_far.traced c.requires c.trace_top-count.ensures))

pub loop-depth-preserved : goal.loop-depth-preserved
loop-depth-preserved c =
    let so_far = c.loop-depth.invariant in
    record {
      deeper = omega arith;
      traced = λ fits top. turn_traced fits c.hand_on-next.ensures so_far.deeper (omega arith) (so_far.traced fits top) c.trace_level-count.ensures;
    }

pub returns-2 : goal.returns-2
returns-2 c =
    let so_far = c.loop-depth.invariant in
    all_levels c.requires (omega arith) (turn_traced c.requires c.hand_on-next.ensures so_far.deeper (omega arith) (so_far.traced c.requires c.trace_top-count.ensures) c.trace_level-count.ensures)
