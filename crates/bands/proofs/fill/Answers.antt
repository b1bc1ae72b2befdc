use mathlib.Core.Path.{ap, ◌∙◌}
use mathlib.Core.List.{List, [], ◌++◌, append-nil}
use Prim.Native.Nat.{ℕ, ◌<◌}
use native.Mathlib.Omega.{arith}
use lib.ListN.{length, drop_of_length-le}
use Rattle.limits.proofs.Laying.{none_laid, one_more_laid, all_laid}
use Rattle.bands.specs.Bands.{band_at, slot_bands}
use Rattle.bands.proofs.Bands.{length_slot_bands, band_of_slot}
use Rattle.bands.proofs.fill.Goals as goal

pub loop-slot-init : goal.loop-slot-init
loop-slot-init c = none_laid (slot_bands (length c.args.bands.now) c.args.common []) c.args.bands.now

pub loop-slot-preserved : goal.loop-slot-preserved
unfolding band_at
loop-slot-preserved c =
    let loop = c.loop-slot in
    let start = c in
    let common = start.args.common in
    let before = start.args.bands.now in
    let inside : loop.slot < length before = omega arith in
    let filled = slot_bands (length before) common [] in
    let long = length_slot_bands (length before) common [] in
    rw (band_of_slot (length before) common [] loop.slot inside) at (one_more_laid filled before loop.bands loop.slot 0 (omega arith) loop.invariant (omega arith))

pub returns : goal.returns
returns c =
    let args = c.args in
    let loop = c.loop-slot in
    let before = args.bands.now in
    let filled = slot_bands (length before) args.common [] in
    let long = length_slot_bands (length before) args.common [] in
    all_laid filled before loop.bands loop.slot loop.invariant (omega arith)
    ∙ ap (λ (rest : List ℕ). filled ++ rest) (drop_of_length-le before {i = length filled} (omega arith))
    ∙ append-nil filled
