-- `subtree::leaves::write_second` meets its contract.
use native.Mathlib.Omega.{arith}
use lib.IntN.{pos}
use lib.ListN.{get_or}
use borrow.Author.Rules.{rules}
use mir.Syntax.{w16}
use mir.Val.{SFits}
use mir.Facts.{to_z-of_z}
use Rattle.subtree.proofs.Pairs.{second_solved}
use Rattle.subtree.proofs.FewSlots.{second_leaf, second_filler}
use Rattle.subtree.proofs.leaves.write_second.Goals as goal

pub returns-else-slots-gt2 : goal.returns-else-slots-gt2
returns-else-slots-gt2 c = second_filler _ _ _ _ c.requires.0 c.requires.1 (omega arith) c.write_filler.ensures

pub returns-then-slots-gt2 : goal.returns-then-slots-gt2
returns-then-slots-gt2 c =
    let third : SFits w16 (get_or c.args.setpoints.now 2 (pos 0)) = search rules in
    second_leaf c.args.margin _ _ _ c.requires.0 c.requires.1 (omega arith) (rw (to_z-of_z third) at c.write_leaf.ensures)

pub returns-then-slots-gt3 : goal.returns-then-slots-gt3
returns-then-slots-gt3 c =
    let third : SFits w16 (get_or c.args.setpoints.now 2 (pos 0)) = search rules in
    let fourth : SFits w16 (get_or c.args.setpoints.now 3 (pos 0)) = search rules in
    second_solved c.args.margin _ _ _ c.requires.1 (omega arith) (rw (to_z-of_z third, to_z-of_z fourth) at c.write_pair.ensures)
