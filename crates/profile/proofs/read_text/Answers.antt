-- `profile::read_text` meets its contract: each way out is a case of `Texts`.
use Rattle.std.proofs.Common.{rules, arith, ◌≡◌, ◌<◌, length, Err, to_z-of_z}
use mir.Syntax.{w32}
use mir.Val.{SFits}
use Rattle.profile.proofs.Texts.{no_third_line, slot_wrong, all_right}
use Rattle.profile.proofs.read_text.Goals as goal

pub returns-then-text-band : goal.returns-then-text-band
returns-then-text-band c = no_third_line c.in_ok-rest.ensures c.in_ok-band.ensures c.if-text-band.true

pub returns-in_err-slots : goal.returns-in_err-slots
returns-in_err-slots c =
    let band_fits : SFits w32 c.in_ok-band.band.number = search rules in
    let more : c.in_ok-band.band.next < length c.args.text.now = omega (arith, c.if-text-band.false, c.in_ok-band.ensures.line_is.in_text) in
    let is : c.from_residual-in_err-slots.result ≡ Err c.in_err-slots.field-0.0 = search rules in
    rw is (slot_wrong c.in_ok-rest.ensures c.in_ok-band.ensures more (rw (to_z-of_z band_fits) at c.in_err-slots.ensures))

pub returns : goal.returns
returns c =
    let rest_fits : SFits w32 c.in_ok-rest.rest.number = search rules in
    let band_fits : SFits w32 c.in_ok-band.band.number = search rules in
    let more : c.in_ok-band.band.next < length c.args.text.now = omega (arith, c.if-text-band.false, c.in_ok-band.ensures.line_is.in_text) in
    rw (to_z-of_z rest_fits, to_z-of_z band_fits) (all_right c.in_ok-rest.ensures c.in_ok-band.ensures more (rw (to_z-of_z band_fits) at c.in_ok-slots.ensures))
