use Rattle.std.proofs.Common.{◌≡◌, length, arith, rules}
use Rattle.verdict.proofs.Compared.{begun, one_more, beyond_band, all_within}
use Rattle.verdict.proofs.compare.Goals as goal

pub loop-slot-init : goal.loop-slot-init
loop-slot-init c = search (rules, begun)

pub returns-then-band-error : goal.returns-then-band-error
returns-then-band-error c =
    beyond_band c.args.setpoints.now c.args.restored.now c.args.bands.now c.loop-slot.invariant c.loop-slot-test.true c.error_in-error.ensures (omega arith)

pub loop-slot-preserved : goal.loop-slot-preserved
loop-slot-preserved c =
    rw (c.max-greatest.ensures, c.min-least.ensures, c.from-band.ensures)
    (one_more c.args.setpoints.now c.args.restored.now c.args.bands.now c.loop-slot.invariant c.error_in-error.ensures (omega arith) (c.requires.bands_within c.loop-slot.slot))

pub returns : goal.returns
returns c =
    let all : c.loop-slot.slot ≡ length c.args.setpoints.now = omega arith in
    all_within c.args.setpoints.now c.args.restored.now c.args.bands.now (rw all at c.loop-slot.invariant) c.requires.some_slot c.requires.bands_within
