-- `build::build_first` meets its contract.
use mir.Facts.{to_z-of_z}
use Rattle.limits.proofs.Signed.{narrower}
use Rattle.build.proofs.Handed.{tree_fits, kept, first_built}
use Rattle.build.proofs.build_first.Goals as goal

pub build_tree-built-requires : goal.build_tree-built-requires
build_tree-built-requires c =
    let a = c.args in
    let value = rw (to_z-of_z c.ranges.rest) at c.lift.ensures.0 in
    rw (c.height_over.ensures, value) (tree_fits a.setpoints.now a.rest a.bands.now a.nodes.now a.values.now a.scratch.now c.requires.0 _ c.least_of-top.ensures)

pub error_of-error-requires : goal.error_of-error-requires
error_of-error-requires c =
    let a = c.args in
    let value = rw (to_z-of_z c.ranges.rest) at c.lift.ensures.0 in
    let tree = c.build_tree-built in
    let built = rw (c.height_over.ensures, value) at tree.ensures.0 in
    rw (narrower c.ranges.rest c.requires.0.acceptable.in_range.rest_within)
    (kept a.setpoints.now a.rest a.bands.now a.nodes.now a.values.now a.scratch.now c.requires.0 _ c.least_of-top.ensures tree.new.nodes tree.new.values tree.result.count tree.result.margin built, c.requires.1)

pub returns : goal.returns
returns c =
    let a = c.args in
    let value = rw (to_z-of_z c.ranges.rest) at c.lift.ensures.0 in
    let tree = c.build_tree-built in
    let built = rw (c.height_over.ensures, value) at tree.ensures.0 in
    let error_is = rw (narrower c.ranges.rest c.requires.0.acceptable.in_range.rest_within) at c.error_of-error.ensures in
    (first_built a.setpoints.now a.rest a.bands.now a.nodes.now a.values.now a.scratch.now c.requires.0 _ c.least_of-top.ensures tree.new.nodes tree.new.values tree.result.count tree.result.margin built c.error_of-error.result error_is, tree.ensures.1)
