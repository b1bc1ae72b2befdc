-- `windows::write_between` meets its contract: both ends are stored, and counted, where they do not cross.
use borrow.Author.Tests.{le-leb, lt-leb}
use Rattle.windows.proofs.Writing.{one_written, none_written}
use Rattle.windows.proofs.write_between.Goals as goal

pub returns-then-high-low : goal.returns-then-high-low
returns-then-high-low c = rw (lt-leb c.args.low c.args.high c.if-high-low.true) (none_written c.args.scratch.now c.args.count _)

pub returns : goal.returns
returns c =
    rw (c.store-2.ensures, c.store.ensures, le-leb c.args.low c.args.high c.if-high-low.false)
    (one_written c.args.scratch.now c.args.count c.args.low c.args.high c.requires.0.within c.requires.1 c.requires.2)
