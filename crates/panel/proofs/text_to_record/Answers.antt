-- `panel::text_to_record` meets its contract.
use Rattle.std.proofs.Common.{◌≡◌, rules, Err}
use Rattle.profile.proofs.Accepted.{held}
use Rattle.panel.proofs.Texts.{room_known}
use Rattle.panel.proofs.Records.{refused_text, text_built}
use Rattle.panel.proofs.text_to_record.Goals as goal

pub returns-in_err-numbers : goal.returns-in_err-numbers
returns-in_err-numbers c =
    let is : c.from_residual.result ≡ Err c.in_err-numbers.field-0.0 = search rules in
    rw is (refused_text c.args.text.now c.args.destination.now _ c.in_err-numbers.ensures.refusal_is)

pub build_record-requires : goal.build_record-requires
build_record-requires c = room_known (held c.in_ok-numbers.ensures)

pub returns : goal.returns
returns c =
    let of_text = held c.in_ok-numbers.ensures in
    text_built of_text of_text.setpoints_are of_text.bands_are c.build_record.ensures
