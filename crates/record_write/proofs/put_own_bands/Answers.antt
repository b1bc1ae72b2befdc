use native.Mathlib.Omega.{arith}
use Rattle.record_write.proofs.Specials.{room_for_one, one_more_written, none_here, all_written}
use Rattle.record_write.proofs.put_own_bands.Goals as goal
use Rattle.record_write.proofs.put_own_bands.Goals.{then-band-common, else-band-common}

pub put_special-place-requires : goal.put_special-place-requires
put_special-place-requires c =
    let a = c.args in
    let loop = c.loop-slot in
    let room = room_for_one a.first.at a.common a.bands.now a.bytes.now loop.invariant c.loop-slot-test.true c.if-band-common.true in
    (omega (arith, c.requires.few_bands), record { room = omega (arith, room, loop.invariant.same_length); counted = omega (arith, loop.invariant.near, c.requires.near, c.requires.few_bands) })

pub loop-slot-preserved : goal.loop-slot-preserved
loop-slot-preserved c =
    let a = c.args in
    let so_far = c.loop-slot.invariant in
    let more = c.loop-slot-test.true in
    elim c.if-band-common.branch [
      | then-band-common w ↦
          rw (w.place-is, w.bytes-is)
          (one_more_written a.first.at a.common a.bands.now a.bytes.now so_far more w.if-band-common.true w.put_special-place.auto.bytes w.put_special-place.ensures)
      | else-band-common w ↦
          rw (w.place-is, w.bytes-is)
          (none_here a.first.at a.common a.bands.now a.bytes.now so_far more w.if-band-common.false)
    ]

pub returns : goal.returns
returns c = let a = c.args in all_written a.first.at a.common a.bands.now a.bytes.now c.loop-slot.invariant c.loop-slot-test.false
