-- A node's answer from the answers of its children in one stretch: where their sets meet, and where they do not.
use mathlib.Core.Path.{◌≡◌, refl, sym, ap, ap₂, ◌∙◌}
use mathlib.Core.List.{List, [], ◌∷◌}
use Prim.Native.Nat.{ℕ, ◌+◌, ◌*◌, ◌≤◌, ◌<◌}
use native.Mathlib.Omega.{arith}
use lib.IntN.{ℤ}
use lib.ListN.{length}
use Rattle.windows.specs.Windows.{Window, meet, join}
use Rattle.windows.specs.Scratch.{at, windows_at, Placed, Written, Joined}
use Rattle.windows.proofs.Reading.{windows_same, windows_length, windows_none}
use Rattle.windows.proofs.Meeting.{meet_none_left}
use Rattle.windows.proofs.Sets.{length_meet}
use Rattle.subtree.specs.Answer.{Answer, combined_by, combined}
use Rattle.subtree.specs.Stretch.{answer_at, Headed, Combinable, CombinedAt, above, ListsCombined}
use Rattle.subtree.specs.Pair.{one_window, SinglesCombined}

-- an answer with at least one window in both sets
both_meet : (both : List Window) (left right : Answer) → 0 < length both → record { number = left.number + right.number; windows = both } ≡ combined_by both left right
both_meet [] left right some = absurd (omega arith)
both_meet (window ∷ windows) left right some = refl

none_meet : (both : List Window) (left right : Answer) → length both ≡ 0
    → record { number = left.number + right.number + 1; windows = join left.windows right.windows } ≡ combined_by both left right
none_meet [] left right none = refl
none_meet (window ∷ windows) left right none = absurd (omega arith)

-- the answer at the front, once the header stands before windows that were written
front : (number count : ℕ) (windows : List Window) (written after : List ℤ) → windows_at (at written) 2 count ≡ windows → Headed number count written after
    → answer_at (at after) 0 ≡ record { number = number; windows = windows }
front number count windows written after windows_are of_header =
    ap₂ (λ (first : ℕ) (others : List Window). record { number = first; windows = others }) of_header.number_is
    (ap (windows_at (at after) 2) of_header.count_is
    ∙ windows_same (at after) (at written) 2 count (λ place above below. of_header.others_same place above)
    ∙ windows_are)

-- the answer of a node, by the sum of its children's numbers
above_both : (numbers : ℕ) (left right : Answer) → numbers ≡ left.number + right.number → above numbers left.windows right.windows ≡ combined left right
above_both numbers left right numbers_are = by_meet (meet left.windows right.windows)
  where
    sum : numbers + 0 ≡ left.number + right.number
    sum = omega arith

    by_meet : (both : List Window) → combined_by both (record { number = numbers; windows = left.windows }) (record { number = 0; windows = right.windows }) ≡ combined_by both left right
    by_meet [] = rw sum
    by_meet (window ∷ windows) = rw sum

-- two lists of windows that were joined up to the first two that meet
module _ {before joined : List ℤ} (numbers : ℕ) {left lefts right rights : ℕ} (placed : Placed (length before) left lefts right rights)
    {next-left left-rest next_right right-rest : ℕ} (of-join : Joined left lefts right rights before joined next-left left-rest next_right right-rest) where
  abbrev left_windows : List Window
  left_windows = windows_at (at before) left lefts

  abbrev right_windows : List Window
  right_windows = windows_at (at before) right rights

  abbrev one : Answer
  one = record { number = numbers; windows = left_windows }

  abbrev other : Answer
  other = record { number = 0; windows = right_windows }

  sum : numbers + 0 ≡ numbers
  sum = omega arith

  -- no two meet: the join is the node's set
  pub combined_apart : {after : List ℤ} → left-rest ≡ 0 → Headed (numbers + 1) (lefts + rights) joined after → ListsCombined numbers left lefts right rights before after
  combined_apart {after} none of_header =
      let empty : meet left_windows right_windows ≡ [] = of-join.same_meet ∙ rw (windows_none (at before) next-left left-rest (omega arith)) (meet_none_left _) in
      record {
        answer_is =
            front (numbers + 1) (lefts + rights) (join left_windows right_windows) joined after (of-join.all_joined none) of_header
            ∙ ap (λ (number : ℕ). record { number = number + 1; windows = join left_windows right_windows }) (sym sum)
            ∙ none_meet (meet left_windows right_windows) one other (ap length empty);
        others_same = λ place far. of_header.others_same place (omega arith) ∙ of-join.others_same place (omega arith);
      }

  -- what is left of the lists meets: what is in both of them is the node's set
  module _ {met : List ℤ} {count : ℕ}
      (of-meet : Written (meet (windows_at (at joined) next-left left-rest) (windows_at (at joined) next_right right-rest)) (2 + 2 * (left-rest + right-rest)) joined met count) where
    pub count_few : count ≤ lefts + rights
    count_few =
        omega (
          arith,
          of-meet.count_is,
          length_meet (windows_at (at joined) next-left left-rest) (windows_at (at joined) next_right right-rest),
          windows_length (at joined) next-left left-rest,
          windows_length (at joined) next_right right-rest,
          of-join.rest_fewer,
        )

    pub combined_meeting : {after : List ℤ} → 0 < left-rest → Headed numbers count met after → ListsCombined numbers left lefts right rights before after
    combined_meeting {after} some of_header =
        let rest_placed = of-join.rest_placed in
        let later = of-join.rest_later in
        let left_same : windows_at (at joined) next-left left-rest ≡ windows_at (at before) next-left left-rest =
        windows_same (at joined) (at before) next-left left-rest (λ place above below. of-join.others_same place (omega arith)) in
        let right_same : windows_at (at joined) next_right right-rest ≡ windows_at (at before) next_right right-rest =
        windows_same (at joined) (at before) next_right right-rest (λ place above below. of-join.others_same place (omega arith)) in
        let both_are : meet (windows_at (at joined) next-left left-rest) (windows_at (at joined) next_right right-rest) ≡ meet left_windows right_windows =
        ap₂ meet left_same right_same ∙ sym of-join.same_meet in
        record {
          answer_is =
              front numbers count (meet left_windows right_windows) met after (of-meet.windows_are ∙ both_are) of_header
              ∙ ap (λ (number : ℕ). record { number = number; windows = meet left_windows right_windows }) (sym sum)
              ∙ both_meet (meet left_windows right_windows) one other (omega (arith, ap length of-join.same_meet, of-join.some_meet some));
          others_same = λ place far. of_header.others_same place (omega arith) ∙ of-meet.others_same place (omega (arith, of-join.rest_fewer)) ∙ of-join.others_same place (omega arith);
        }

-- the answers of two children, by what stands at their places
module _ {before after : List ℤ} {left right : ℕ} (combinable : Combinable before left right) {numbers : ℕ} (numbers_are : numbers ≡ at before left + at before right) where
  pub combined_lists : {lefts rights : ℕ} → lefts ≡ at before (left + 1) → rights ≡ at before (right + 1) → ListsCombined numbers (left + 2) lefts (right + 2) rights before after → CombinedAt before after left right
  combined_lists lefts-are rights-are of-lists =
      record {
        answer_is = (rw (lefts-are, rights-are) at of-lists.answer_is) ∙ above_both numbers (answer_at (at before) left) (answer_at (at before) right) numbers_are;
        others_same = λ place far. of-lists.others_same place (omega arith);
      }

  pub combined_singles : {left-low left-high right-low right-high : ℕ} → at before (left + 1) + at before (right + 1) ≡ 2
      → left-low ≡ at before (left + 2) → left-high ≡ at before (left + 2 + 1) → right-low ≡ at before (right + 2) → right-high ≡ at before (right + 2 + 1)
      → SinglesCombined numbers left-low left-high right-low right-high before after → CombinedAt before after left right
  unfolding windows_at
  combined_singles {left-low} {left-high} {right-low} {right-high} two left-low-is left-high-is right-low-is right-high-is of-singles =
      let left_one : at before (left + 1) ≡ 1 = omega arith in
      let right_one : at before (right + 1) ≡ 1 = omega arith in
      let left_is : one_window left-low left-high ≡ windows_at (at before) (left + 2) (at before (left + 1)) = rw (left_one, left-low-is, left-high-is) in
      let right_is : one_window right-low right-high ≡ windows_at (at before) (right + 2) (at before (right + 1)) = rw (right_one, right-low-is, right-high-is) in
      record {
        answer_is = of-singles.answer_is ∙ ap₂ (above numbers) left_is right_is ∙ above_both numbers (answer_at (at before) left) (answer_at (at before) right) numbers_are;
        others_same = λ place far. of-singles.behind_same place (omega arith);
      }
