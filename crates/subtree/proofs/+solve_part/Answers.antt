-- `subtree::solve_part` meets its contract. The measure is the height.
use mathlib.Core.Path.{◌∙◌}
use Prim.Native.Nat.{◌-◌}
use native.Mathlib.Omega.{arith}
use lib.IntN.{pos}
use lib.ListN.{get_or, length-map}
use lib.Pow.{pow_pos}
use borrow.Author.Rules.{rules}
use mir.Syntax.{w16}
use mir.Val.{SFits}
use mir.Facts.{to_z-of_z}
use Rattle.claims.specs.Inner.{narrowed}
use Rattle.subtree.proofs.Places.{own_first}
use Rattle.subtree.proofs.Slots.{windows_for, length_windows, windows_usable}
use Rattle.subtree.proofs.Solving.{ChildrenSolved, parts_solved, children_combinable, whole_solved}
use Rattle.subtree.proofs.Pairs.{pair_places, pair_whole, pairs_solved}
use Rattle.subtree.proofs.FewSlots.{few_solved}
use Rattle.subtree.proofs.+solve_part.Goals as goal
use Rattle.subtree.proofs.+solve_part.Goals.{then-height-gt2, else-height-gt2}

pub write_few-requires : goal.write_few-requires
write_few-requires t c =
    let solvable = c.requires.0 in
    (solvable.setpoints_within, solvable.each_band, solvable.bands_over, c.requires.1, omega arith, omega (arith, solvable.room, own_first c.args.height, pow_pos c.args.height))

pub combine-requires : goal.combine-requires
combine-requires t c =
    let a = c.args in
    let both = c.if-height-gt2 in
    let solved : ChildrenSolved a.height both.left.0 both.left.1 (windows_for a.margin a.bands.now a.setpoints.now) a.scratch.now both.scratch =
    elim both.branch [
      | then-height-gt2 w ↦
          let left = w.solve_part in
          let right = w.solve_part-then-height-gt2 in
          rw (w.left-is, w.scratch-is)
          (parts_solved left.new.scratch right.new.scratch w.plan-parts.ensures c.requires.0 c.requires.1 w.min-lefts.ensures left.auto.scratch right.auto.scratch left.ensures right.ensures)
      | else-height-gt2 w ↦ rw (w.left-is, w.scratch-is) (pairs_solved (omega arith) w.write_pairs.ensures w.write_pairs.auto.scratch)
    ] in
    children_combinable solved (windows_usable (narrowed a.margin a.bands.now) c.requires.0.setpoints_within) (omega arith) c.requires.0.room

pub write_pair-requires : goal.write_pair-requires
write_pair-requires t c =
    let solvable = c.requires.0 in
    let first : SFits w16 (get_or c.args.setpoints.now 0 (pos 0)) = search rules in
    let second : SFits w16 (get_or c.args.setpoints.now 1 (pos 0)) = search rules in
    rw (to_z-of_z first, to_z-of_z second) (
      solvable.setpoints_within.each 0,
      solvable.setpoints_within.each 1,
      solvable.bands_over.each 0 (omega (arith, solvable.each_band)),
      solvable.bands_over.each 1 (omega (arith, solvable.each_band)),
      omega (arith, pair_places c.args.height (omega arith) (omega arith)),
    )

pub returns-then-slots-lt2 : goal.returns-then-slots-lt2
returns-then-slots-lt2 t c =
    let a = c.args in
    let narrow = narrowed a.margin a.bands.now in
    let long = length_windows narrow a.setpoints.now (length-map a.bands.now (λ band. band - a.margin) ∙ c.requires.0.each_band) in
    few_solved a.height (windows_usable narrow c.requires.0.setpoints_within) (omega (arith, long)) c.write_few.new.scratch c.write_few.ensures

pub returns-after-height-gt2 : goal.returns-after-height-gt2
returns-after-height-gt2 t c =
    let a = c.args in
    let both = c.if-height-gt2 in
    let solved : ChildrenSolved a.height both.left.0 both.left.1 (windows_for a.margin a.bands.now a.setpoints.now) a.scratch.now both.scratch =
    elim both.branch [
      | then-height-gt2 w ↦
          let left = w.solve_part in
          let right = w.solve_part-then-height-gt2 in
          rw (w.left-is, w.scratch-is)
          (parts_solved left.new.scratch right.new.scratch w.plan-parts.ensures c.requires.0 c.requires.1 w.min-lefts.ensures left.auto.scratch right.auto.scratch left.ensures right.ensures)
      | else-height-gt2 w ↦ rw (w.left-is, w.scratch-is) (pairs_solved (omega arith) w.write_pairs.ensures w.write_pairs.auto.scratch)
    ] in
    whole_solved solved c.combine.new.scratch c.combine.ensures

pub returns-else-height-gt1 : goal.returns-else-height-gt1
returns-else-height-gt1 t c =
    let a = c.args in
    let first : SFits w16 (get_or a.setpoints.now 0 (pos 0)) = search rules in
    let second : SFits w16 (get_or a.setpoints.now 1 (pos 0)) = search rules in
    let pair = rw (to_z-of_z first, to_z-of_z second) at c.write_pair.ensures in
    pair_whole a.margin a.bands.now a.setpoints.now c.write_pair.new.scratch c.requires.0.each_band a.height (omega arith) (omega arith) c.requires.0.few_slots pair
