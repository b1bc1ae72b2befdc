-- The invariant of the loop that writes what is in either of two sets, up to the first two windows that meet.
use mathlib.Core.Path.{◌≡◌, refl, sym, ◌∙◌}
use mathlib.Core.List.{List, [], ◌∷◌, ◌++◌}
use Prim.Native.Nat.{ℕ, ◌+◌, ◌*◌, ◌-◌, ◌≤◌, ◌<◌, min, max}
use native.Mathlib.Omega.{arith}
use lib.IntN.{ℤ}
use lib.ListN.{length}
use borrow.Author.Tests.{lt-ltb, le-ltb, le-leb, lt-leb}
use Rattle.windows.specs.Windows.{Window, Sorted, between, meet, join}
use Rattle.windows.specs.Scratch.{at, windows_at, Joinable, Written, Joined}
use Rattle.windows.proofs.Reading.{windows_same, windows_none, LeftOf, all_left, one_passed}
use Rattle.windows.proofs.Writing.{window_at, WrittenSoFar, none_so_far, one_copied, next_window}
use Rattle.windows.proofs.Sets.{sorted_lower}
use Rattle.windows.proofs.Meeting.{meet_none_left, meet_none_right, meet_left_ends, meet_right_ends}

join_none_left : (right : List Window) → join [] right ≡ right
unfolding join
join_none_left right = refl

join_none_right : (left : List Window) → join left [] ≡ left
unfolding join
join_none_right [] = refl
join_none_right (a ∷ left) = refl

crossed : (low high : ℕ) → high < low → between low high ≡ []
crossed low high apart = rw (lt-leb low high apart)

-- two lists whose first windows hold a value each: where one of them ends before the other begins, it is the first of the join and in nothing of the meet
module _ (a b : Window) (left right : List Window) (a-some : a.low ≤ a.high) (b-some : b.low ≤ b.high) where
  join_left_first : a.high < b.low → join (a ∷ left) (b ∷ right) ≡ a ∷ join left (b ∷ right)
  unfolding join
  join_left_first before = rw (le-ltb b.low a.low (omega arith))

  join_right_first : b.high < a.low → join (a ∷ left) (b ∷ right) ≡ b ∷ join (a ∷ left) right
  unfolding join
  join_right_first before = rw (lt-ltb b.low a.low (omega arith))

  meet_left_passed : a.high < b.low → meet (a ∷ left) (b ∷ right) ≡ meet left (b ∷ right)
  meet_left_passed before = meet_left_ends a b left right (omega arith) ∙ rw (crossed (max a.low b.low) a.high (omega arith))

  meet_right_passed : b.high < a.low → meet (a ∷ left) (b ∷ right) ≡ meet (a ∷ left) right
  meet_right_passed before = meet_right_ends a b left right (omega arith) ∙ rw (crossed (max a.low b.low) b.high (omega arith))

  -- and where neither does, they meet
  some_meet : b.low ≤ a.high → a.low ≤ b.high → 0 < length (meet (a ∷ left) (b ∷ right))
  unfolding meet
  some_meet b-reached a-reached = rw (le-leb (max a.low b.low) (min a.high b.high) (omega arith)) (omega arith)

-- the join of two lists, of which so many windows are left, is written, and nothing of either meets what was passed of the other
pub record JoinSoFar (before : List ℤ) (left₀ lefts₀ right₀ rights₀ : ℕ) (now : List ℤ) (left lefts right rights count : ℕ) : Type 0 where
  pub of_left : LeftOf left₀ lefts₀ left lefts
  pub of_right : LeftOf right₀ rights₀ right rights
  pub counted : count + (lefts + rights) ≡ lefts₀ + rights₀
  pub left_sorted : Sorted 0 (windows_at (at before) left lefts)
  pub right_sorted : Sorted 0 (windows_at (at before) right rights)
  pub same_meet : meet (windows_at (at before) left₀ lefts₀) (windows_at (at before) right₀ rights₀) ≡ meet (windows_at (at before) left lefts) (windows_at (at before) right rights)
  pub so_far : WrittenSoFar (join (windows_at (at before) left₀ lefts₀) (windows_at (at before) right₀ rights₀)) (join (windows_at (at before) left lefts) (windows_at (at before) right rights)) (2 + 2 * (lefts₀ + rights₀)) before now count

-- of a sorted list, that its first window holds a value, and that what follows is sorted
first_holds : (window : Window) (windows : List Window) → Sorted 0 (window ∷ windows) → window.low ≤ window.high
unfolding Sorted
first_holds window windows sorted = sorted.1

later_sorted : (window : Window) (windows : List Window) → Sorted 0 (window ∷ windows) → Sorted 0 windows
unfolding Sorted
later_sorted window windows sorted = sorted_lower windows (omega arith) sorted.3

module _ {before : List ℤ} {left₀ lefts₀ right₀ rights₀ : ℕ} (joinable : Joinable before left₀ lefts₀ right₀ rights₀) where
  pub join_begun : JoinSoFar before left₀ lefts₀ right₀ rights₀ before left₀ lefts₀ right₀ rights₀ 0
  join_begun =
      record {
        of_left = all_left left₀ lefts₀;
        of_right = all_left right₀ rights₀;
        counted = omega arith;
        left_sorted = joinable.left_sorted;
        right_sorted = joinable.right_sorted;
        same_meet = refl;
        so_far = none_so_far _ _ before;
      }

  module _ {now : List ℤ} {left lefts right rights count : ℕ} (joined : JoinSoFar before left₀ lefts₀ right₀ rights₀ now left lefts right rights count) where
    -- at the end of either list nothing meets, and what is left of the other was copied
    module _ {after : List ℤ} {later : List Window} {next : ℕ}
        (written : Written (windows_at (at now) 2 count ++ later) (2 + 2 * next) now after next) (next_is : next ≡ lefts₀ + rights₀) where
      ended : join (windows_at (at before) left lefts) (windows_at (at before) right rights) ≡ later → meet (windows_at (at before) left lefts) (windows_at (at before) right rights) ≡ []
          → Joined left₀ lefts₀ right₀ rights₀ before after left 0 right 0
      unfolding windows_at
      ended later-is none =
          let of_left = joined.of_left in
          let of_right = joined.of_right in
          let placed = joinable.placed in
          record {
            header_same = λ place below. written.header_same place below ∙ joined.so_far.header_same place below;
            others_same = λ place above. written.others_same place (omega arith) ∙ joined.so_far.others_same place above;
            rest_placed = record { room = omega arith; apart = omega arith; within = omega arith; small = omega arith };
            rest_later = omega arith;
            rest_fewer = omega arith;
            same_meet = joined.same_meet ∙ none ∙ sym (meet_none_left []);
            some_meet = λ some. absurd (omega arith);
            all_joined = λ nothing. rw next_is at (written.windows_are ∙ (rw later-is at joined.so_far.windows_are));
          }

    pub left_ended : lefts ≤ 0 → {after : List ℤ} → Written (windows_at (at now) 2 count ++ windows_at (at now) right rights) (2 + 2 * (count + rights)) now after (count + rights)
        → Joined left₀ lefts₀ right₀ rights₀ before after left 0 right 0
    left_ended none written =
        let right_same : windows_at (at now) right rights ≡ windows_at (at before) right rights =
        windows_same (at now) (at before) right rights (λ place above below. joined.so_far.others_same place (omega arith)) in
        ended written (omega arith)
        (rw (windows_none (at before) left lefts none, right_same) (join_none_left (windows_at (at before) right rights)))
        (rw (windows_none (at before) left lefts none) (meet_none_left (windows_at (at before) right rights)))

    pub right_ended : rights ≤ 0 → {after : List ℤ} → Written (windows_at (at now) 2 count ++ windows_at (at now) left lefts) (2 + 2 * (count + lefts)) now after (count + lefts)
        → Joined left₀ lefts₀ right₀ rights₀ before after left 0 right 0
    right_ended none written =
        let left_same : windows_at (at now) left lefts ≡ windows_at (at before) left lefts =
        windows_same (at now) (at before) left lefts (λ place above below. joined.so_far.others_same place (omega arith)) in
        ended written (omega arith)
        (rw (windows_none (at before) right rights none, left_same) (join_none_right (windows_at (at before) left lefts)))
        (rw (windows_none (at before) right rights none) (meet_none_right (windows_at (at before) left lefts)))

    -- both lists go on
    module _ (left-more : 0 < lefts) (right-more : 0 < rights) where
      abbrev lefts_later : List Window
      lefts_later = windows_at (at before) (left + 2) (lefts - 1)

      abbrev rights_later : List Window
      rights_later = windows_at (at before) (right + 2) (rights - 1)

      left_is : windows_at (at before) left lefts ≡ window_at now left ∷ lefts_later
      left_is = next_window joined.so_far left lefts (omega arith) left-more

      right_is : windows_at (at before) right rights ≡ window_at now right ∷ rights_later
      right_is = next_window joined.so_far right rights (omega arith) right-more

      left_holds : at now left ≤ at now (left + 1)
      left_holds = first_holds (window_at now left) lefts_later (rw left_is at joined.left_sorted)

      right_holds : at now right ≤ at now (right + 1)
      right_holds = first_holds (window_at now right) rights_later (rw right_is at joined.right_sorted)

      -- neither of the next windows ends before the other begins: they meet
      pub stopped : at now right ≤ at now (left + 1) → at now left ≤ at now (right + 1) → Joined left₀ lefts₀ right₀ rights₀ before now left lefts right rights
      stopped right-reached left-reached =
          let of_left = joined.of_left in
          let of_right = joined.of_right in
          let placed = joinable.placed in
          record {
            header_same = joined.so_far.header_same;
            others_same = joined.so_far.others_same;
            rest_placed = record { room = omega arith; apart = omega arith; within = omega arith; small = omega arith };
            rest_later = omega arith;
            rest_fewer = omega arith;
            same_meet = joined.same_meet;
            some_meet = λ some. rw (left_is, right_is) (some_meet (window_at now left) (window_at now right) lefts_later rights_later left_holds right_holds right-reached left-reached);
            all_joined = λ none. absurd (omega arith);
          }

      -- a turn of the loop: the window that ends before the other begins was copied
      module _ {after : List ℤ} (long : length after ≡ length now) where
        pub left_copied : at now (left + 1) < at now right → Written (windows_at (at now) 2 count ++ windows_at (at now) left 1) (2 + 2 * count + 2) now after (count + 1)
            → JoinSoFar before left₀ lefts₀ right₀ rights₀ after (left + 2) (lefts - 1) right rights (count + 1)
        left_copied first written =
            record {
              of_left = one_passed joined.of_left left-more;
              of_right = joined.of_right;
              counted = omega arith;
              left_sorted = later_sorted (window_at now left) lefts_later (rw left_is at joined.left_sorted);
              right_sorted = joined.right_sorted;
              same_meet = joined.same_meet ∙ rw (left_is, right_is) (meet_left_passed (window_at now left) (window_at now right) lefts_later rights_later left_holds right_holds first);
              so_far =
                  one_copied left joined.so_far
                  (rw (left_is, right_is) (join_left_first (window_at now left) (window_at now right) lefts_later rights_later left_holds right_holds first)) written long (omega arith);
            }

        pub right_copied : at now (right + 1) < at now left → Written (windows_at (at now) 2 count ++ windows_at (at now) right 1) (2 + 2 * count + 2) now after (count + 1)
            → JoinSoFar before left₀ lefts₀ right₀ rights₀ after left lefts (right + 2) (rights - 1) (count + 1)
        right_copied first written =
            record {
              of_left = joined.of_left;
              of_right = one_passed joined.of_right right-more;
              counted = omega arith;
              left_sorted = joined.left_sorted;
              right_sorted = later_sorted (window_at now right) rights_later (rw right_is at joined.right_sorted);
              same_meet = joined.same_meet ∙ rw (left_is, right_is) (meet_right_passed (window_at now left) (window_at now right) lefts_later rights_later left_holds right_holds first);
              so_far =
                  one_copied right joined.so_far
                  (rw (left_is, right_is) (join_right_first (window_at now left) (window_at now right) lefts_later rights_later left_holds right_holds first)) written long (omega arith);
            }
