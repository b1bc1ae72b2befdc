use Prim.Native.Nat.{◌<◌}
use native.Mathlib.Omega.{arith}
use borrow.Author.Rules.{rules}
use borrow.Author.Tests.{ltb-true, ltb-false}
use Rattle.windows.proofs.Joining.{join_begun, left_ended, right_ended, stopped, left_copied, right_copied}
use Rattle.windows.proofs.write_join.Goals as goal
use Rattle.windows.proofs.write_join.Goals.{then-ends_before, else-ends_before+then-ends_before-2}

pub loop-rest-init : goal.loop-rest-init
loop-rest-init c = join_begun c.requires

pub returns-else-ends_before-2 : goal.returns-else-ends_before-2
returns-else-ends_before-2 c =
    let right-reached = ltb-false _ _ (rw c.ends_before.ensures at c.if-ends_before.false) in
    let left-reached = ltb-false _ _ (rw c.ends_before-else-ends_before.ensures at c.if-ends_before-2.false) in
    stopped c.requires c.loop-rest.invariant c.loop-rest-test.true (search rules) right-reached left-reached

pub loop-rest-preserved : goal.loop-rest-preserved
loop-rest-preserved c =
    let left-more = c.loop-rest-test.true in
    let right-more : 0 < c.loop-rest.rest.rights = omega arith in
    elim c.if-ends_before.branch [
      | then-ends_before w ↦
          let first = ltb-true _ _ (rw c.ends_before.ensures at w.if-ends_before.true) in
          rw (w.scratch-is, w.rest-is) (left_copied c.requires c.loop-rest.invariant left-more right-more w.copy_window.auto.scratch first w.copy_window.ensures)
      | else-ends_before+then-ends_before-2 w ↦
          let first = ltb-true _ _ (rw w.ends_before-else-ends_before.ensures at w.if-ends_before-2.true) in
          rw (w.scratch-is, w.rest-is)
          (right_copied c.requires c.loop-rest.invariant left-more right-more w.copy_window-then-ends_before-2.auto.scratch first w.copy_window-then-ends_before-2.ensures)
    ]

pub returns-then-rest-eq0 : goal.returns-then-rest-eq0
returns-then-rest-eq0 c =
    let rest = c.nothing_left.ensures in
    rw (rest.0, rest.1, rest.2, rest.3) (right_ended c.requires c.loop-rest.invariant (omega arith) c.copy_windows.ensures)

pub returns : goal.returns
returns c =
    let rest = c.nothing_left-2.ensures in
    rw (rest.0, rest.1, rest.2, rest.3) (left_ended c.requires c.loop-rest.invariant c.loop-rest-test.false c.copy_windows-2.ensures)
