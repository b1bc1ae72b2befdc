-- `build::tree::Tree::build_tree` meets its contract.
use mathlib.Core.Path.{◌∙◌}
use Rattle.build.proofs.OverTree.{levels_fit, tree_built}
use Rattle.build.proofs.tree.Tree.build_tree.Goals as goal

pub trace-count-requires : goal.trace-count-requires
trace-count-requires c =
    let a = c.args in
    let tree = a.self in
    let counted = c.count_terms-budget in
    let found = c.solve_greatest_margin-margin in
    levels_fit a.top tree.height tree.value tree.setpoints.now tree.bands.now a.nodes.now a.values.now a.scratch.now c.requires found.new.scratch found.result (found.auto.scratch ∙ counted.auto.scratch) found.ensures.in_scratch

pub returns : goal.returns
returns c =
    let a = c.args in
    let tree = a.self in
    let counted = c.count_terms-budget in
    let found = c.solve_greatest_margin-margin in
    let traced = c.trace-count in (
      tree_built a.top tree.height tree.value tree.setpoints.now tree.bands.now a.nodes.now a.values.now a.scratch.now c.requires counted.new.scratch found.new.scratch counted.result found.result traced.result traced.new.nodes traced.new.values
          counted.ensures found.ensures.greatest_within found.ensures.in_scratch traced.ensures,
      found.auto.scratch ∙ counted.auto.scratch,
    )
