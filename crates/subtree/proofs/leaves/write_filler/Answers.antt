-- `subtree::leaves::write_filler` meets its contract.
use Rattle.subtree.proofs.LeafAnswers.{filler_solved}
use Rattle.subtree.proofs.leaves.write_filler.Goals as goal

pub returns : goal.returns
returns c = filler_solved _ c.write_single.new.scratch c.write_single.ensures
