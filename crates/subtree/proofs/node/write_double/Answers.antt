-- `subtree::node::write_double` meets its contract.
use native.Mathlib.Omega.{arith}
use Rattle.subtree.proofs.LeafAnswers.{double_written}
use Rattle.subtree.proofs.node.write_double.Goals as goal

pub returns : goal.returns
returns c =
    rw (c.store-4.ensures, c.store-3.ensures, c.store-2.ensures, c.store.ensures)
    (double_written _ c.write_header.new.scratch _ _ _ _ _ (omega arith) c.write_header.ensures c.requires.2 c.requires.3 c.requires.4 c.requires.5)
