-- `panel::build_record` meets its contract.
use Rattle.std.proofs.Common.{sym, arith, to_z-of_z}
use lib.Seq.{length-take-le}
use Rattle.limits.proofs.Signed.{narrower}
use Rattle.panel.proofs.Records.{rest_within, rest_fits, band_fits, buildable, in_nodes, in_values, writable, terms_few, bytes_few}
use Rattle.panel.proofs.build_record.Goals as goal

pub build_first-built-requires : goal.build_first-built-requires
build_first-built-requires c =
    let known = c.requires in
    rw (to_z-of_z (rest_fits known), to_z-of_z (band_fits known)) (buildable known _ _ _ (omega arith) (omega arith) (omega arith), known.counted)

pub slice_bounds-nodes-end : goal.slice_bounds-nodes-end
slice_bounds-nodes-end c = in_nodes c.requires (rw (to_z-of_z (rest_fits c.requires)) at c.build_first-built.ensures.0)

pub slice_bounds-write_for_bands-end : goal.slice_bounds-write_for_bands-end
slice_bounds-write_for_bands-end c = sym (length-take-le _ _ (in_nodes c.requires (rw (to_z-of_z (rest_fits c.requires)) at c.build_first-built.ensures.0)))

pub slice_bounds-values-end : goal.slice_bounds-values-end
slice_bounds-values-end c = in_values c.requires (rw (to_z-of_z (rest_fits c.requires)) at c.build_first-built.ensures.0)

pub slice_bounds-write_for_bands-end-2 : goal.slice_bounds-write_for_bands-end-2
slice_bounds-write_for_bands-end-2 c = sym (length-take-le _ _ (in_values c.requires (rw (to_z-of_z (rest_fits c.requires)) at c.build_first-built.ensures.0)))

pub write_for_bands-requires : goal.write_for_bands-requires
write_for_bands-requires c =
    let known = c.requires in
    rw (to_z-of_z (band_fits known)) (writable known (rw (to_z-of_z (rest_fits known)) at c.build_first-built.ensures.0))

pub overflow_cast-result : goal.overflow_cast-result
overflow_cast-result c =
    let known = c.requires in
    let built = rw (to_z-of_z (rest_fits known)) at c.build_first-built.ensures.0 in
    let written = rw (to_z-of_z (band_fits known), narrower (rest_fits known) (rest_within known)) at c.write_for_bands.ensures in
    record { fits = omega (arith, bytes_few known built written c.in_ok-written.was) }

pub overflow_cast-result-2 : goal.overflow_cast-result-2
overflow_cast-result-2 c =
    let known = c.requires in
    record { fits = omega (arith, terms_few known (rw (to_z-of_z (rest_fits known)) at c.build_first-built.ensures.0)) }
