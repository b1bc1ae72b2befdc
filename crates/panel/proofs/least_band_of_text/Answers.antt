-- `panel::least_band_of_text` meets its contract.
use Rattle.std.proofs.Common.{◌≡◌, arith, rules, Err, to_z-of_z}
use Rattle.profile.proofs.Accepted.{held, rest_fits}
use Rattle.panel.proofs.Packing.{least_refused, specials_refused, budget_refused, least_found_right, least_packed}
use Rattle.panel.proofs.least_band_of_text.Goals as goal

pub returns-in_err-read : goal.returns-in_err-read
returns-in_err-read c =
    let is : c.from_residual.result ≡ Err c.in_err-read.field-0.0 = search rules in
    rw is (least_refused c.args.text.now c.args.budget _ c.in_err-read.ensures.refusal_is)

pub returns-then-read-gt0 : goal.returns-then-read-gt0
returns-then-read-gt0 c =
    let of_text = held c.in_ok-read.ensures in
    specials_refused c.args.text.now c.args.budget of_text.not_refused (omega (arith, of_text.specials_is))

pub returns-then-budget-gt1023 : goal.returns-then-budget-gt1023
returns-then-budget-gt1023 c =
    let of_text = held c.in_ok-read.ensures in
    budget_refused c.args.text.now c.args.budget of_text.not_refused (omega (arith, of_text.specials_is)) (omega arith)

pub returns-in_err-band : goal.returns-in_err-band
returns-in_err-band c =
    let of_text = held c.in_ok-read.ensures in
    absurd (least_found_right of_text (omega arith) (omega arith) of_text.setpoints_are (omega arith) (rw (to_z-of_z (rest_fits of_text)) at c.in_err-band.ensures))

pub returns : goal.returns
returns c =
    let of_text = held c.in_ok-read.ensures in
    rw (c.alone.ensures.0, c.alone.ensures.1, c.alone.ensures.2)
    (least_packed of_text (omega arith) (omega arith) of_text.setpoints_are (omega arith) (rw (to_z-of_z (rest_fits of_text)) at c.in_ok-band.ensures))
