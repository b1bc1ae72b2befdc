use borrow.Author.Rules.{rules}
use Rattle.windows.proofs.Meeting.{meet_begun, left_ended, right_ended, left_done, right_done}
use Rattle.windows.proofs.write_meet.Goals as goal

pub loop-rest-init : goal.loop-rest-init
loop-rest-init c = meet_begun

pub loop-rest-preserved-then-left_high-right_high : goal.loop-rest-preserved-then-left_high-right_high
loop-rest-preserved-then-left_high-right_high c =
    let written = rw (c.max-low.ensures, c.load.ensures.0, c.load-in-loop-rest.ensures.0) at c.write_between-count.ensures in
    left_done c.loop-rest.invariant c.requires c.loop-rest-test.true c.if-rest-gt0.true _ c.write_between-count.auto.scratch written c.load-left_high.ensures.0 (search rules)

pub loop-rest-preserved : goal.loop-rest-preserved
loop-rest-preserved c =
    let written = rw (c.max-low.ensures, c.load.ensures.0, c.load-in-loop-rest.ensures.0) at c.write_between-count-else-left_high-right_high.ensures in
    right_done c.loop-rest.invariant c.requires c.loop-rest-test.true c.if-rest-gt0.true _ c.write_between-count-else-left_high-right_high.auto.scratch written c.load-right_high.ensures.0 (search rules)

pub returns-else-rest-gt0 : goal.returns-else-rest-gt0
returns-else-rest-gt0 c = right_ended c.loop-rest.invariant c.if-rest-gt0.false

pub returns-after-loop-rest : goal.returns-after-loop-rest
returns-after-loop-rest c = left_ended c.loop-rest.invariant c.loop-rest-test.false
