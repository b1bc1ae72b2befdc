-- `fire::fire_profile` is safe and ends.
use mathlib.Core.Path.{sym}
use native.Mathlib.Omega.{arith}
use lib.Seq.{length-take-le}
use mir.Facts.{to_z-of_z}
use Rattle.panel.proofs.Records.{rest_fits, band_fits, buildable, nodes_enough, values_enough}
use Rattle.fire.proofs.fire_profile.Goals as goal

pub build_first-built-requires : goal.build_first-built-requires
build_first-built-requires g c =
    let known = c.requires in
    rw (to_z-of_z (rest_fits known), to_z-of_z (band_fits known)) (buildable known _ _ _ (omega arith) (omega arith) (omega arith), known.counted)

-- no more terms than nodes, and than values, were handed over
pub slice_bounds-nodes-end : goal.slice_bounds-nodes-end
slice_bounds-nodes-end g c = nodes_enough _ _ c.build_first-built.new.values c.build_first-built.ensures.0.count_is

pub slice_bounds-print_synopsis-end : goal.slice_bounds-print_synopsis-end
slice_bounds-print_synopsis-end g c = sym (length-take-le _ _ (nodes_enough _ _ c.build_first-built.new.values c.build_first-built.ensures.0.count_is))

pub slice_bounds-values-end : goal.slice_bounds-values-end
slice_bounds-values-end g c = values_enough _ c.build_first-built.new.nodes _ c.build_first-built.ensures.0.count_is

pub slice_bounds-print_synopsis-end-2 : goal.slice_bounds-print_synopsis-end-2
slice_bounds-print_synopsis-end-2 g c = sym (length-take-le _ _ (values_enough _ c.build_first-built.new.nodes _ c.build_first-built.ensures.0.count_is))
