-- From a solved stretch to the terms that the tree needs: what stands at its front, and the count by whether the value is covered.
use mathlib.Core.Path.{◌≡◌, sym, subst}
use mathlib.Core.Bool.{true, false}
use mathlib.Core.List.{List}
use Prim.Native.Nat.{ℕ, ◌+◌, ◌*◌, ◌≤◌}
use native.Mathlib.Omega.{arith}
use lib.IntN.{ℤ}
use lib.ListN.{length}
use Rattle.claims.specs.Inner.{narrowed}
use Rattle.windows.specs.Windows.{Window, covers, Sorted}
use Rattle.windows.specs.Scratch.{at, windows_at}
use Rattle.subtree.specs.Answer.{Answer, answer, needed}
use Rattle.subtree.specs.Stretch.{answer_at, Solved, Solvable, Counted}
use Rattle.subtree.proofs.Places.{own_first, places_within}
use Rattle.subtree.proofs.Slots.{windows_for, windows_usable}
use Rattle.subtree.proofs.Answers.{answer_sorted, answer_bounded}
use Rattle.subtree.proofs.Solving.{solved_top, count_of}

-- the answer at the front of a stretch lies within it, and its windows are sorted
pub record Front (scratch : List ℤ) : Type 0 where
  pub fits : 2 + 2 * at scratch 1 ≤ length scratch
  pub few : 2 + 2 * at scratch 1 ≤ 65536
  pub sorted : Sorted 0 (windows_at (at scratch) 2 (at scratch 1))

module _ {margin height : ℕ} {setpoints : List ℤ} {bands : List ℕ} {before : List ℤ} (scratch : List ℤ) (solvable : Solvable margin height setpoints bands before)
    (same_length : length scratch ≡ length before) (solved : Solved height (windows_for margin bands setpoints) (at scratch)) where
  abbrev leaves : List Window
  leaves = windows_for margin bands setpoints

  top : answer_at (at scratch) 0 ≡ answer height leaves
  top = solved_top height leaves (at scratch) solved

  pub front : Front scratch
  front = record {
    fits = omega (arith, solvable.room, own_first height, count_of (at scratch) 0 (answer height leaves) top, (answer_bounded height leaves).few);
    few =
        omega (arith, own_first height, places_within height solvable.in_tree, count_of (at scratch) 0 (answer height leaves) top, (answer_bounded height leaves).few);
    sorted = subst (λ (one : Answer). Sorted 0 one.windows) (sym top) (answer_sorted (windows_usable (narrowed margin bands) solvable.setpoints_within) height);
  }

  module _ {value count : ℕ} where
    pub counted_inside : count ≡ at scratch 0 → covers (windows_at (at scratch) 2 (at scratch 1)) value ≡ true → Counted height value leaves scratch count
    counted_inside count_is inside = record { count_is = subst (λ (one : Answer). count ≡ needed one value) top (rw inside (omega arith)); solved = solved }

    pub counted_outside : count ≡ at scratch 0 → covers (windows_at (at scratch) 2 (at scratch 1)) value ≡ false → Counted height value leaves scratch (count + 1)
    counted_outside count_is outside = record { count_is = subst (λ (one : Answer). count + 1 ≡ needed one value) top (rw outside (omega arith)); solved = solved }
