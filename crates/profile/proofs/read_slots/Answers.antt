use Rattle.std.proofs.Common.{rules, arith, ◌≡◌, ◌<◌, Err, w16, to_z-of_z}
use mir.Val.{SFits}
use Rattle.profile.proofs.Slots.{nothing_read, few_specials, all_read, too_many, line_wrong, common_band, own_band}
use Rattle.profile.proofs.read_slots.Goals as goal
use Rattle.profile.proofs.read_slots.Goals.{then-line-common, else-line-common}

pub loop-at-init : goal.loop-at-init
loop-at-init c = let a = c.args in nothing_read a.common a.text.now a.from a.setpoints.now a.bands.now c.requires.0

pub returns-then-count-eq512 : goal.returns-then-count-eq512
returns-then-count-eq512 c = too_many c.loop-at.invariant c.loop-at-test.true c.if-count-eq512.true

pub returns-in_err-line : goal.returns-in_err-line
returns-in_err-line c =
    let is : c.from_residual.result ≡ Err c.in_err-line.field-0.0 = search rules in
    rw is (line_wrong c.loop-at.invariant c.loop-at-test.true (omega (arith, c.loop-at.invariant.few, c.if-count-eq512.false)) c.in_err-line.ensures)

pub overflow_add-specials : goal.overflow_add-specials
overflow_add-specials c = omega (arith, few_specials c.loop-at.invariant)

pub loop-at-preserved : goal.loop-at-preserved
loop-at-preserved c =
    let so_far = c.loop-at.invariant in
    let room : c.loop-at.count < 512 = omega (arith, so_far.few, c.if-count-eq512.false) in
    let fits : SFits w16 c.in_ok-line.line.setpoint = search rules in
    rw (to_z-of_z fits)
    (elim c.if-line-common.branch [
      | then-line-common w ↦
          rw (w.bands-is, w.specials-is) (common_band so_far c.loop-at-test.true room c.requires.2 c.requires.3 c.in_ok-line.ensures w.if-line-common.true)
      | else-line-common w ↦
          rw (w.bands-is, w.specials-is) (own_band so_far c.loop-at-test.true room c.requires.2 c.requires.3 c.in_ok-line.ensures w.if-line-common.false)
    ])

pub returns : goal.returns
returns c = all_read c.loop-at.invariant c.loop-at-test.false
