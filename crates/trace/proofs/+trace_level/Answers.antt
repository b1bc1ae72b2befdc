-- `trace::trace_level` meets its contract. The measure is the height.
use mathlib.Core.Path.{sym, ◌∙◌}
use Prim.Native.Nat.{◌-◌}
use native.Mathlib.Omega.{arith}
use Rattle.trace.proofs.Levels.{descended, none_below, left_fits, right_fits, level_traced}
use Rattle.trace.proofs.Stretches.{handing, answered}
use Rattle.trace.proofs.+trace_level.Goals as goal

pub load-requires : goal.load-requires
load-requires t c = omega (arith, (answered c.requires.1.stretch).room)

pub returns-then-load-eq0 : goal.returns-then-load-eq0
returns-then-load-eq0 t c = none_below c.requires.1 (sym c.load.ensures.0 ∙ c.if-load-eq0.true)

pub hand_to_children-left-requires : goal.hand_to_children-left-requires
hand_to_children-left-requires t c = handing c.plan-parts.ensures c.requires.1.stretch (omega (arith, c.load.ensures.0, c.if-load-eq0.false)) c.requires.1.in_set

pub trace_level-first-requires : goal.trace_level-first-requires
trace_level-first-requires t c =
    let descent = descended {below = c.args.depth - 1} c.requires.1 (omega arith) (omega (arith, c.load.ensures.0, c.if-load-eq0.false)) c.plan-parts.ensures c.hand_to_children-left.ensures in
    (omega (arith, c.requires.1.in_subtree), (omega arith, left_fits descent (omega arith)))

pub trace_level-requires : goal.trace_level-requires
trace_level-requires t c =
    let descent = descended {below = c.args.depth - 1} c.requires.1 (omega arith) (omega (arith, c.load.ensures.0, c.if-load-eq0.false)) c.plan-parts.ensures c.hand_to_children-left.ensures in
    (omega (arith, c.requires.1.in_subtree), (omega arith, right_fits descent (omega arith) c.trace_level-first.ensures))

pub trace_children-first-requires : goal.trace_children-first-requires
trace_children-first-requires t c =
    let descent = descended {below = 1} c.requires.1 (omega arith) (omega (arith, c.load.ensures.0, c.if-load-eq0.false)) c.plan-parts.ensures c.hand_to_children-left.ensures in
    left_fits descent (omega arith)

pub trace_children-requires : goal.trace_children-requires
trace_children-requires t c =
    let descent = descended {below = 1} c.requires.1 (omega arith) (omega (arith, c.load.ensures.0, c.if-load-eq0.false)) c.plan-parts.ensures c.hand_to_children-left.ensures in
    right_fits descent (omega arith) c.trace_children-first.ensures

pub returns-then-depth-gt2 : goal.returns-then-depth-gt2
returns-then-depth-gt2 t c =
    let descent = descended {below = c.args.depth - 1} c.requires.1 (omega arith) (omega (arith, c.load.ensures.0, c.if-load-eq0.false)) c.plan-parts.ensures c.hand_to_children-left.ensures in
    level_traced descent (omega arith) c.trace_level-first.ensures c.trace_level.ensures

pub returns-else-depth-gt2 : goal.returns-else-depth-gt2
returns-else-depth-gt2 t c =
    let descent = descended {below = 1} c.requires.1 (omega arith) (omega (arith, c.load.ensures.0, c.if-load-eq0.false)) c.plan-parts.ensures c.hand_to_children-left.ensures in
    level_traced descent (omega arith) c.trace_children-first.ensures c.trace_children.ensures
