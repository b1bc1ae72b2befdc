-- `trace::trace_children` meets its contract.
use mathlib.Core.Path.{refl, sym, ◌∙◌}
use native.Mathlib.Omega.{arith}
use Rattle.trace.proofs.Levels.{descended, none_below, left_term_fits, right_term_fits, children_traced}
use Rattle.trace.proofs.Stretches.{answered, handing}
use Rattle.trace.proofs.trace_children.Goals as goal

pub load-number-requires : goal.load-number-requires
load-number-requires c = omega (arith, (answered c.requires.stretch).room)

pub returns-then-number-eq0 : goal.returns-then-number-eq0
returns-then-number-eq0 c = none_below c.requires (sym c.load-number.ensures.0 ∙ c.if-number-eq0.true)

pub hand_to_children-left-requires : goal.hand_to_children-left-requires
hand_to_children-left-requires c = handing c.plan-parts.ensures c.requires.stretch (omega (arith, c.load-number.ensures.0, c.if-number-eq0.false)) c.requires.in_set

pub write_term-first-requires : goal.write_term-first-requires
write_term-first-requires c =
    let descent = descended c.requires refl (omega (arith, c.load-number.ensures.0, c.if-number-eq0.false)) c.plan-parts.ensures c.hand_to_children-left.ensures in
    left_term_fits descent

pub write_term-requires : goal.write_term-requires
write_term-requires c =
    let descent = descended c.requires refl (omega (arith, c.load-number.ensures.0, c.if-number-eq0.false)) c.plan-parts.ensures c.hand_to_children-left.ensures in
    right_term_fits descent c.write_term-first.ensures

pub returns : goal.returns
returns c =
    let descent = descended c.requires refl (omega (arith, c.load-number.ensures.0, c.if-number-eq0.false)) c.plan-parts.ensures c.hand_to_children-left.ensures in
    children_traced descent c.write_term-first.ensures c.write_term.ensures
