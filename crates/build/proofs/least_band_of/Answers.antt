-- `build::least_band_of` meets its contract.
use mathlib.Core.Path.{◌≡◌, ◌∙◌}
use lib.ListN.{length}
use lib.Seq.{length-take-le, take_at}
use mir.Facts.{to_z-of_z}
use Rattle.claims.specs.Best.{one_band}
use Rattle.build.proofs.Handed.{tree_searchable, least_found}
use Rattle.build.proofs.least_band_of.Goals as goal

pub greatest_margin_within-found-requires : goal.greatest_margin_within-found-requires
greatest_margin_within-found-requires c =
    let a = c.args in
    let as_many : length c.fill.new.bands ≡ length a.setpoints.now = c.fill.auto.bands ∙ length-take-le _ _ c.requires.few_slots in
    let filled : c.fill.new.bands ≡ one_band a.setpoints.now 40000 = rw (length-take-le _ _ c.requires.few_slots) at c.fill.ensures in
    let value = rw (to_z-of_z c.ranges.rest) at c.lift.ensures.0 in
    rw (take_at c.fill.new.bands _ (length a.setpoints.now) as_many, filled, c.height_over.ensures, value)
    (tree_searchable a.setpoints.now a.rest a.budget a.scratch.now c.requires)

pub returns : goal.returns
returns c =
    let a = c.args in
    let as_many : length c.fill.new.bands ≡ length a.setpoints.now = c.fill.auto.bands ∙ length-take-le _ _ c.requires.few_slots in
    let filled : c.fill.new.bands ≡ one_band a.setpoints.now 40000 = rw (length-take-le _ _ c.requires.few_slots) at c.fill.ensures in
    let value = rw (to_z-of_z c.ranges.rest) at c.lift.ensures.0 in
    let found =
    rw (take_at c.fill.new.bands _ (length a.setpoints.now) as_many, filled, c.height_over.ensures, value)
    at c.greatest_margin_within-found.ensures.greatest_within in
    least_found a.setpoints.now a.rest a.budget a.scratch.now c.requires _ found
