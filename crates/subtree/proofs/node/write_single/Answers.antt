-- `subtree::node::write_single` meets its contract.
use Rattle.subtree.proofs.LeafAnswers.{single_at}
use Rattle.subtree.proofs.node.write_single.Goals as goal

pub returns : goal.returns
returns c =
    rw (c.store-4.ensures, c.store-3.ensures, c.store-2.ensures, c.store.ensures)
    (single_at c.args.scratch.now c.args.place c.args.number c.args.window.low c.args.window.high c.requires.0 c.requires.2 c.requires.3 c.requires.4)
