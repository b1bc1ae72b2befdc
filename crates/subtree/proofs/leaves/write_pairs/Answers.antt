-- `subtree::leaves::write_pairs` meets its contract.
use native.Mathlib.Omega.{arith}
use lib.IntN.{pos}
use lib.ListN.{get_or}
use borrow.Author.Rules.{rules}
use mir.Syntax.{w16}
use mir.Val.{SFits}
use mir.Facts.{to_z-of_z}
use Rattle.subtree.proofs.Slots.{windows_for}
use Rattle.subtree.proofs.Solving.{halves}
use Rattle.subtree.proofs.Pairs.{four_places, four_planned, first_solved}
use Rattle.subtree.proofs.leaves.write_pairs.Goals as goal

pub slice_bounds-write_pair-end : goal.slice_bounds-write_pair-end
slice_bounds-write_pair-end c = omega (arith, four_places)

pub slice_bounds-write_second-end : goal.slice_bounds-write_second-end
slice_bounds-write_second-end c = omega (arith, four_places)

pub returns : goal.returns
returns c =
    let a = c.args in
    let left = c.write_pair in
    let right = c.write_second in
    let first : SFits w16 (get_or a.setpoints.now 0 (pos 0)) = search rules in
    let second : SFits w16 (get_or a.setpoints.now 1 (pos 0)) = search rules in
    let pair = rw (to_z-of_z first, to_z-of_z second) at left.ensures in
    halves 2 2 10 24 38 (windows_for a.margin a.bands.now a.setpoints.now) a.scratch.now left.new.scratch right.new.scratch four_planned (omega (arith, four_places))
    left.auto.scratch right.auto.scratch (first_solved a.margin a.bands.now a.setpoints.now left.new.scratch c.requires.0.each_band (omega arith) pair) right.ensures
