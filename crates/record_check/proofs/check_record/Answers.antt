-- `record_check::check_record` meets its contract: each way out is a case of `Checks`.
use Rattle.std.proofs.Common.{◌≡◌, sym, ◌∙◌, rules, Err}
use Rattle.record_check.proofs.Checks as Checks
use Rattle.record_check.proofs.check_record.Goals as goal

pub returns-then-is_outside_slots : goal.returns-then-is_outside_slots
returns-then-is_outside_slots c =
    let a = c.args in
    Checks.no_profile a.setpoints.now a.bytes.now (sym c.is_outside_slots.ensures ∙ c.if-is_outside_slots.true)

pub returns-in_err-header : goal.returns-in_err-header
returns-in_err-header c =
    let a = c.args in
    let read = rw c.in_err-header.was at c.read_into_room.ensures in
    let is : c.from_residual.result ≡ Err c.in_err-header.field-0.0 = search rules in
    rw is (Checks.record_wrong a.setpoints.now a.bytes.now (sym c.is_outside_slots.ensures ∙ c.if-is_outside_slots.false) _ read.refusal_is)

pub returns-then-is_any_beyond : goal.returns-then-is_any_beyond
returns-then-is_any_beyond c =
    let a = c.args in
    let right = Checks.record_right a.setpoints.now c.read_into_room.ensures c.in_ok-header.was in
    Checks.setpoint_wrong a.setpoints.now a.bytes.now (sym c.is_outside_slots.ensures ∙ c.if-is_outside_slots.false) right (sym c.is_any_beyond.ensures ∙ c.if-is_any_beyond.true)

pub returns-then-header-setpoints : goal.returns-then-header-setpoints
returns-then-header-setpoints c =
    let a = c.args in
    let read = c.read_into_room.ensures in
    let right = Checks.record_right a.setpoints.now read c.in_ok-header.was in
    let slots = Checks.slots_are a.setpoints.now read c.in_ok-header.was in
    Checks.other_length a.setpoints.now a.bytes.now (sym c.is_outside_slots.ensures ∙ c.if-is_outside_slots.false) right (sym c.is_any_beyond.ensures ∙ c.if-is_any_beyond.false) (λ same. c.if-header-setpoints.true (slots ∙ same))

pub judge_record-requires : goal.judge_record-requires
judge_record-requires c =
    Checks.judgeable c.args.setpoints.now c.read_into_room.ensures c.in_ok-header.was c.if-header-setpoints.false (sym c.is_outside_slots.ensures ∙ c.if-is_outside_slots.false) (sym c.is_any_beyond.ensures ∙ c.if-is_any_beyond.false)

pub returns : goal.returns
returns c =
    let a = c.args in
    let read = c.read_into_room.ensures in
    let right = c.in_ok-header.was in
    let same = c.if-header-setpoints.false in
    Checks.verdict_given a.setpoints.now a.bytes.now (sym c.is_outside_slots.ensures ∙ c.if-is_outside_slots.false) (Checks.record_right a.setpoints.now read right) (sym c.is_any_beyond.ensures ∙ c.if-is_any_beyond.false) (sym (Checks.slots_are a.setpoints.now read right) ∙ same) c.judge_record.result
    (Checks.judged a.setpoints.now read right same c.judge_record.ensures)
