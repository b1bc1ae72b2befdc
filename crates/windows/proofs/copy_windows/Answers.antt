use mathlib.Core.Path.{◌≡◌}
use mathlib.Core.List.{List, ◌++◌}
use Prim.Native.Nat.{ℕ, ◌+◌, ◌*◌, ◌≤◌}
use native.Mathlib.Omega.{arith}
use lib.IntN.{ℤ}
use Rattle.windows.specs.Scratch.{at, windows_at, Written}
use Rattle.windows.proofs.Reading.{windows_none, one_passed}
use Rattle.windows.proofs.Writing.{all_written, one_copied, next_window}
use Rattle.windows.proofs.copy_windows.Goals as goal
use Rattle.windows.proofs.copy_windows.Invariants.{CopiedSoFar}

-- at the end of the list everything is written
copied_all : {before : List ℤ} {place₀ windows₀ count₀ : ℕ} {now : List ℤ} {place windows count : ℕ} → CopiedSoFar before place₀ windows₀ count₀ now place windows count → windows ≤ 0
    → Written (windows_at (at before) 2 count₀ ++ windows_at (at before) place₀ windows₀) (2 + 2 * (count₀ + windows₀)) before now (count₀ + windows₀)
copied_all {before} {place₀} {windows₀} {count₀} {now} {place} {windows} {count} copied ended =
    let all : count ≡ count₀ + windows₀ = omega arith in
    all_written (rw (windows_none (at before) place windows ended, all) at copied.so_far)

pub loop-windows-preserved : goal.loop-windows-preserved
loop-windows-preserved c =
    let loop = c.loop-windows in
    let some = c.loop-windows-test.true in
    record {
      of_list = one_passed loop.invariant.of_list some;
      counted = omega arith;
      so_far =
          one_copied loop.place loop.invariant.so_far (next_window loop.invariant.so_far loop.place loop.windows (omega arith) some)
          c.copy_window.ensures c.copy_window.auto.scratch (omega arith);
    }

pub returns : goal.returns
returns c = copied_all c.loop-windows.invariant c.loop-windows-test.false
