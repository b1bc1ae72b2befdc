-- `windows::copy_window` meets its contract: the ends that are read are stored.
use native.Mathlib.Omega.{arith}
use Rattle.windows.specs.Scratch.{windows_at}
use Rattle.windows.proofs.Writing.{one_written}
use Rattle.windows.proofs.copy_window.Goals as goal

pub returns : goal.returns
unfolding windows_at
returns c =
    let low = c.load-low in
    let high = c.load-high in
    let one = one_written c.args.scratch.now c.args.count low.result high.result (omega arith) low.ensures.1 high.ensures.1 in
    rw (c.store-2.ensures, c.store.ensures, low.ensures.0, high.ensures.0) (rw (low.ensures.0, high.ensures.0) at one)
