-- The invariant of the loop that writes what is in both of two sets.
use mathlib.Core.Path.{◌≡◌, refl}
use mathlib.Core.Bool.{Bool, true, false, cond}
use mathlib.Core.List.{List, [], ◌∷◌, ◌++◌}
use Prim.Native.Nat.{ℕ, ◌+◌, ◌*◌, ◌-◌, ◌≤◌, ◌<◌, min, max}
use native.Mathlib.Omega.{arith}
use lib.Dec.{leb}
use lib.IntN.{ℤ}
use lib.ListN.{length, length-append}
use borrow.Author.Tests.{lt-ltb, le-ltb}
use Rattle.windows.specs.Windows.{Window, between, meet}
use Rattle.windows.specs.Scratch.{at, windows_at, Placed, Written}
use Rattle.windows.proofs.Reading.{windows_length, windows_none, LeftOf, all_left, one_passed}
use Rattle.windows.proofs.Writing.{window_at, WrittenSoFar, none_so_far, more_written, all_written, next_window}

pub meet_none_left : (right : List Window) → meet [] right ≡ []
unfolding meet
meet_none_left right = refl

pub meet_none_right : (left : List Window) → meet left [] ≡ []
unfolding meet
meet_none_right [] = refl
meet_none_right (a ∷ left) = refl

-- the list whose first window ends first goes on
module _ (a b : Window) (left right : List Window) where
  pub meet_left_ends : a.high < b.high → meet (a ∷ left) (b ∷ right) ≡ between (max a.low b.low) a.high ++ meet left (b ∷ right)
  unfolding meet
  meet_left_ends first = let end : min a.high b.high ≡ a.high = omega arith in rw (lt-ltb a.high b.high first, end)

  pub meet_right_ends : b.high ≤ a.high → meet (a ∷ left) (b ∷ right) ≡ between (max a.low b.low) b.high ++ meet (a ∷ left) right
  unfolding meet
  meet_right_ends first = let end : min a.high b.high ≡ b.high = omega arith in rw (le-ltb a.high b.high first, end)

-- at most one window is between two ends
few_between : (low high : ℕ) → length (between low high) ≤ 1
few_between low high = split (leb low high) (record { low = low; high = high })
  where
    split : (test : Bool) (window : Window) → length (cond test (window ∷ []) []) ≤ 1
    split true window = omega arith
    split false window = omega arith

-- what is in both of two lists, of which so many windows are left, is written as far as `count` windows
pub record MeetSoFar (before : List ℤ) (left₀ lefts₀ right₀ rights₀ : ℕ) (now : List ℤ) (left lefts right rights count : ℕ) : Type 0 where
  pub of_left : LeftOf left₀ lefts₀ left lefts
  pub of_right : LeftOf right₀ rights₀ right rights
  pub few : count + (lefts + rights) ≤ lefts₀ + rights₀
  pub so_far : WrittenSoFar (meet (windows_at (at before) left₀ lefts₀) (windows_at (at before) right₀ rights₀)) (meet (windows_at (at before) left lefts) (windows_at (at before) right rights)) (2 + 2 * (lefts₀ + rights₀)) before now count

module _ {before : List ℤ} {left₀ lefts₀ right₀ rights₀ : ℕ} where
  pub meet_begun : MeetSoFar before left₀ lefts₀ right₀ rights₀ before left₀ lefts₀ right₀ rights₀ 0
  meet_begun = record { of_left = all_left left₀ lefts₀; of_right = all_left right₀ rights₀; few = omega arith; so_far = none_so_far _ _ before }

  module _ {now : List ℤ} {left lefts right rights count : ℕ} (met : MeetSoFar before left₀ lefts₀ right₀ rights₀ now left lefts right rights count) where
    -- at the end of either list everything is written
    pub left_ended : lefts ≤ 0 → Written (meet (windows_at (at before) left₀ lefts₀) (windows_at (at before) right₀ rights₀)) (2 + 2 * (lefts₀ + rights₀)) before now count
    left_ended ended = all_written (rw (windows_none (at before) left lefts ended, meet_none_left (windows_at (at before) right rights)) at met.so_far)

    pub right_ended : rights ≤ 0 → Written (meet (windows_at (at before) left₀ lefts₀) (windows_at (at before) right₀ rights₀)) (2 + 2 * (lefts₀ + rights₀)) before now count
    right_ended ended = all_written (rw (windows_none (at before) right rights ended, meet_none_right (windows_at (at before) left lefts)) at met.so_far)

    -- a turn of the loop: of the lists' next windows one ends first, and what is in both up to there was written
    module _ (placed : Placed (length before) left₀ lefts₀ right₀ rights₀) (left-more : 0 < lefts) (right-more : 0 < rights) where
      left_is : windows_at (at before) left lefts ≡ window_at now left ∷ windows_at (at before) (left + 2) (lefts - 1)
      left_is = next_window met.so_far left lefts (omega arith) left-more

      right_is : windows_at (at before) right rights ≡ window_at now right ∷ windows_at (at before) (right + 2) (rights - 1)
      right_is = next_window met.so_far right rights (omega arith) right-more

      abbrev more : ℕ → List Window
      more high = between (max (at now left) (at now right)) high

      module _ {after : List ℤ} (high : ℕ) {next : ℕ} (long : length after ≡ length now) (written : Written (windows_at (at now) 2 count ++ more high) (2 + 2 * count + 2) now after next) where
        next_few : next ≤ count + 1
        next_few = omega (arith, written.count_is, length-append (windows_at (at now) 2 count) (more high), windows_length (at now) 2 count, few_between (max (at now left) (at now right)) high)

        pub left_done : high ≡ at now (left + 1) → at now (left + 1) < at now (right + 1) → MeetSoFar before left₀ lefts₀ right₀ rights₀ after (left + 2) (lefts - 1) right rights next
        left_done high_is first =
            let split = meet_left_ends (window_at now left) (window_at now right) (windows_at (at before) (left + 2) (lefts - 1)) (windows_at (at before) (right + 2) (rights - 1)) first in
            record {
              of_left = one_passed met.of_left left-more;
              of_right = met.of_right;
              few = omega (arith, next_few);
              so_far = more_written (more high) met.so_far (rw (left_is, right_is, high_is) split) written long (omega arith);
            }

        pub right_done : high ≡ at now (right + 1) → at now (right + 1) ≤ at now (left + 1) → MeetSoFar before left₀ lefts₀ right₀ rights₀ after left lefts (right + 2) (rights - 1) next
        right_done high_is first =
            let split = meet_right_ends (window_at now left) (window_at now right) (windows_at (at before) (left + 2) (lefts - 1)) (windows_at (at before) (right + 2) (rights - 1)) first in
            record {
              of_left = met.of_left;
              of_right = one_passed met.of_right right-more;
              few = omega (arith, next_few);
              so_far = more_written (more high) met.so_far (rw (left_is, right_is, high_is) split) written long (omega arith);
            }
