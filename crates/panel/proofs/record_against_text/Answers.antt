-- `panel::record_against_text` meets its contract.
use Rattle.std.proofs.Common.{◌≡◌, rules, Err}
use Rattle.profile.proofs.Accepted.{held}
use Rattle.panel.proofs.Packing.{check_refused}
use Rattle.panel.proofs.record_against_text.Goals as goal

pub returns-in_err-kept : goal.returns-in_err-kept
returns-in_err-kept c =
    let args = c.args in
    let of_text = held c.in_ok-profile.ensures in
    let is : c.from_residual-in_err-kept.result ≡ Err c.in_err-kept.field-0.0 = search rules in
    rw is (check_refused args.bytes.now args.text.now _ _ of_text.not_refused of_text.setpoints_are c.in_err-kept.ensures)
