-- `record_read::read_specials` meets its contract: a special slot that is wrong, or all of them right.
use Rattle.std.proofs.Common.{rules, arith, ◌≡◌}
use Rattle.record.specs.Record.{special_in}
use Rattle.record_read.proofs.Specials.{wrong_here, one_more_read, all_read}
use Rattle.record_read.proofs.read_specials.Goals as goal

pub returns-then-is_wrong : goal.returns-then-is_wrong
returns-then-is_wrong c =
    let a = c.args in
    let slot_read : c.from-slot.result ≡ (special_in c.loop.place.at a.bytes.now).slot = search rules in
    let band_read : c.read-band.result ≡ (special_in c.loop.place.at a.bytes.now).band = search rules in
    wrong_here a.bytes.now a.first.at a.specials a.common a.bands.now c.loop.invariant c.loop-test.true slot_read band_read c.is_wrong.ensures _ c.if-is_wrong.true

pub loop-preserved : goal.loop-preserved
loop-preserved c =
    let a = c.args in
    let slot_read : c.from-slot.result ≡ (special_in c.loop.place.at a.bytes.now).slot = search rules in
    let band_read : c.read-band.result ≡ (special_in c.loop.place.at a.bytes.now).band = search rules in
    one_more_read a.bytes.now a.first.at a.specials a.common a.bands.now c.loop.invariant c.loop-test.true slot_read band_read c.is_wrong.ensures c.if-is_wrong.false (omega (arith, c.after-place.ensures, c.after-band_place.ensures))

pub returns : goal.returns
returns c = let a = c.args in all_read a.bytes.now a.first.at a.specials a.common a.bands.now c.loop.invariant c.loop-test.false
