-- `windows::copy_windows` meets its contract. The invariant: with those that are left the windows are written; the measure is how many are left.
use mathlib.Core.Path.{◌≡◌}
use mathlib.Core.List.{List, ◌++◌}
use Prim.Native.Nat.{ℕ, ◌+◌, ◌*◌}
use lib.IntN.{ℤ}
use Rattle.windows.specs.Scratch.{at, windows_at}
use Rattle.windows.proofs.Reading.{LeftOf}
use Rattle.windows.proofs.Writing.{WrittenSoFar}
use Rattle.windows.proofs.copy_windows.Given as goal

pub record CopiedSoFar (before : List ℤ) (place₀ windows₀ count₀ : ℕ) (now : List ℤ) (place windows count : ℕ) : Type 0 where
  pub of_list : LeftOf place₀ windows₀ place windows
  pub counted : count + windows ≡ count₀ + windows₀
  pub so_far : WrittenSoFar (windows_at (at before) 2 count₀ ++ windows_at (at before) place₀ windows₀) (windows_at (at before) place windows) (2 + 2 * (count₀ + windows₀)) before now count

abbrev pub invariant-loop-windows : goal.invariant-loop-windows
invariant-loop-windows l = CopiedSoFar l.initial.scratch l.initial.place l.initial.windows l.initial.count l.scratch l.place l.windows l.count

abbrev pub decreases-loop-windows : goal.decreases-loop-windows
decreases-loop-windows l = l.windows
