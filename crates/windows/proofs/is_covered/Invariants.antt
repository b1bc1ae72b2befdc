-- `windows::is_covered` meets its contract. The invariant: no window that was passed holds the value, so those that are left decide.
use mathlib.Core.Path.{◌≡◌}
use mathlib.Core.List.{List}
use Prim.Native.Nat.{ℕ, ◌-◌}
use lib.IntN.{ℤ}
use Rattle.windows.specs.Windows.{covers, Sorted}
use Rattle.windows.specs.Scratch.{at, windows_at}
use Rattle.windows.proofs.Reading.{LeftOf}
use Rattle.windows.proofs.is_covered.Given as goal

pub record NotPassed (scratch : List ℤ) (place count value next left : ℕ) : Type 0 where
  pub of_list : LeftOf place count next left
  pub same : covers (windows_at (at scratch) place count) value ≡ covers (windows_at (at scratch) next left) value
  pub sorted : Sorted 0 (windows_at (at scratch) next left)

abbrev pub invariant-loop : goal.invariant-loop
invariant-loop l = NotPassed l.scratch l.initial.place l.count l.value l.place (l.count - l.counter)
