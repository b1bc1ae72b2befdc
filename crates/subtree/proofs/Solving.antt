-- A solved stretch: it may be read otherwise, as a part of scratch, and it is made of the children's stretches and the node's answer.
use mathlib.Core.Path.{◌≡◌, sym, ap, ap₂, subst, ◌∙◌}
use mathlib.Core.List.{List}
use Prim.Native.Nat.{ℕ, zero, suc, ◌+◌, ◌*◌, ◌-◌, ◌^◌, ◌≤◌, ◌<◌, min}
use native.Mathlib.Omega.{arith}
use lib.IntN.{ℤ}
use lib.ListN.{length, take, drop}
use lib.Pow.{pow_mono}
use borrow.Rule.Slice.PartMut.{put_mid, mid_len, same_len_mid}
use Rattle.windows.specs.Windows.{Window, Sorted}
use Rattle.windows.specs.Scratch.{at, windows_at}
use Rattle.windows.proofs.Reading.{windows_same, windows_shifted, windows_length}
use Rattle.subtree.specs.Answer.{Answer, combined, answer}
use Rattle.subtree.specs.Stretch.{own_places, places, answer_at, Solved, Halves, Usable, Solvable, Planned, Combinable, CombinedAt}
use Rattle.subtree.proofs.Places.{places_above, own_first}
use Rattle.subtree.proofs.Slots.{windows_for, front_solved, back_solved}
use Rattle.subtree.proofs.Lent.{in_part, before_part}
use Rattle.subtree.proofs.Answers.{Bounded, answer_bounded, answer_sorted, usable_take, usable_drop}

-- the answer of the node at the top
pub solved_top : (height : ℕ) (leaves : List Window) (read : ℕ → ℕ) → Solved height leaves read → answer_at read 0 ≡ answer height leaves
unfolding Solved
solved_top zero leaves read solved = solved
solved_top (suc height) leaves read solved = solved.0

-- how many windows stand at a place, by the answer there
pub count_of : (read : ℕ → ℕ) (place : ℕ) (one : Answer) → answer_at read place ≡ one → read (place + 1) ≡ length one.windows
count_of read place one is = sym (windows_length read (place + 2) (read (place + 1))) ∙ ap (λ (of : Answer). length of.windows) is

-- an answer is the same where the numbers of its places are
pub answer_same : (read other : ℕ → ℕ) (place slots : ℕ) → read (place + 1) ≤ slots
    → ((k : ℕ) → place ≤ k → k < place + 2 + 2 * slots → read k ≡ other k) → answer_at read place ≡ answer_at other place
answer_same read other place slots few same =
    ap₂ (λ (number : ℕ) (windows : List Window). record { number = number; windows = windows }) (same place (omega arith) (omega arith))
    (windows_same read other (place + 2) (read (place + 1)) (λ k above below. same k (omega arith) (omega arith))
    ∙ ap (windows_at other (place + 2)) (same (place + 1) (omega arith) (omega arith)))

pub answer_shifted : (read : ℕ → ℕ) (start : ℕ) → answer_at (λ k. read (start + k)) 0 ≡ answer_at read start
answer_shifted read start =
    let here : start + 0 ≡ start = omega arith in
    let first : start + (0 + 2) ≡ start + 2 = omega arith in
    rw (windows_shifted read start (0 + 2) (read (start + (0 + 1))), here, first)

-- a stretch is solved by the numbers of its places alone
top_same : (height : ℕ) (leaves : List Window) (read other : ℕ → ℕ) → ((place : ℕ) → place < places height → read place ≡ other place)
    → answer_at read 0 ≡ answer height leaves → answer_at other 0 ≡ answer height leaves
top_same height leaves read other same is =
    let few : read 1 ≤ 2 ^ height = omega (arith, count_of read 0 (answer height leaves) is, (answer_bounded height leaves).few) in
    sym (answer_same read other 0 (2 ^ height) few (λ k above below. same k (omega (arith, own_first height)))) ∙ is

pub solved_same : (height : ℕ) (leaves : List Window) (read other : ℕ → ℕ) → ((place : ℕ) → place < places height → read place ≡ other place)
    → Solved height leaves read → Solved height leaves other
unfolding Solved
solved_same zero leaves read other same solved = top_same zero leaves read other same solved
solved_same (suc height) leaves read other same solved =
    let own : ℕ = own_places (suc height) in (
      top_same (suc height) leaves read other same solved.0,
      λ some. (
        solved_same height (take (2 ^ height) leaves) (λ place. read (own + place)) (λ place. other (own + place))
            (λ place inside. same (own + place) (omega (arith, places_above height))) (solved.1 some).0,
        solved_same height (drop (2 ^ height) leaves) (λ place. read (own + places height + place)) (λ place. other (own + places height + place))
            (λ place inside. same (own + places height + place) (omega (arith, places_above height))) (solved.1 some).1,
      ),
    )

-- the answers of the two children in the stretch of the node above them
pub child_answer : (height start : ℕ) (leaves : List Window) (read : ℕ → ℕ) → Solved height leaves (λ place. read (start + place))
    → answer_at read start ≡ answer height leaves
child_answer height start leaves read solved = sym (answer_shifted read start) ∙ solved_top height leaves (λ place. read (start + place)) solved

-- the answers of both children stand in one stretch, each a part of it
module _ (height own middle : ℕ) (leaves : List Window) (both : List ℤ) (halves : Halves height own middle leaves both) where
  left_bounded : Bounded (2 ^ height) (answer_at (at both) own)
  left_bounded =
      subst (Bounded (2 ^ height)) (sym (child_answer height own (take (2 ^ height) leaves) (at both) halves.left_solved))
      (answer_bounded height (take (2 ^ height) leaves))

  right_bounded : Bounded (2 ^ height) (answer_at (at both) middle)
  right_bounded =
      subst (Bounded (2 ^ height)) (sym (child_answer height middle (drop (2 ^ height) leaves) (at both) halves.right_solved))
      (answer_bounded height (drop (2 ^ height) leaves))

  -- they can be combined
  pub combinable : Usable leaves → own ≡ own_places (suc height) → middle ≡ own + places height → middle + places height ≤ length both → middle + places height ≤ 12286 → height ≤ 8
      → Combinable both own middle
  combinable usable own_is middle_is fits few in_tree =
      let power : 2 ^ height ≤ 2 ^ 8 = pow_mono in_tree in
      let lefts = windows_length (at both) (own + 2) (at both (own + 1)) in
      let rights = windows_length (at both) (middle + 2) (at both (middle + 1)) in
      record {
        room = omega (arith, left_bounded.few, right_bounded.few);
        apart = omega (arith, left_bounded.few, own_first height);
        within = omega (arith, right_bounded.few, own_first height);
        near = omega (arith, right_bounded.few, own_first height);
        small = omega (arith, left_bounded.below, right_bounded.below);
        left_some = omega (arith, left_bounded.some);
        right_some = omega (arith, right_bounded.some);
        left_sorted =
            subst (λ (one : Answer). Sorted 0 one.windows) (sym (child_answer height own (take (2 ^ height) leaves) (at both) halves.left_solved))
            (answer_sorted (usable_take usable (2 ^ height)) height);
        right_sorted =
            subst (λ (one : Answer). Sorted 0 one.windows) (sym (child_answer height middle (drop (2 ^ height) leaves) (at both) halves.right_solved))
            (answer_sorted (usable_drop usable (2 ^ height)) height);
      }

  -- and once they are, the stretch is solved
  pub node_solved : (after : List ℤ) → own ≡ own_places (suc height) → middle ≡ own + places height → CombinedAt both after own middle
      → Solved (suc height) leaves (at after)
  unfolding Solved answer
  node_solved after own_is middle_is combined-at =
      let left_is = child_answer height own (take (2 ^ height) leaves) (at both) halves.left_solved in
      let right_is = child_answer height middle (drop (2 ^ height) leaves) (at both) halves.right_solved in (
        combined-at.answer_is ∙ ap₂ combined left_is right_is,
        λ some. (
          solved_same height (take (2 ^ height) leaves) (λ place. at both (own + place)) (λ place. at after (own_places (suc height) + place))
              (λ place inside. sym (combined-at.others_same (own + place) (omega arith)) ∙ ap (λ (start : ℕ). at after (start + place)) own_is) halves.left_solved,
          solved_same height (drop (2 ^ height) leaves) (λ place. at both (middle + place)) (λ place. at after (own_places (suc height) + places height + place))
              (λ place inside. sym (combined-at.others_same (middle + place) (omega arith)) ∙ ap (λ (start : ℕ). at after (start + place)) (middle_is ∙ ap (λ (start : ℕ). start + places height) own_is))
              halves.right_solved,
        ),
      )

-- the children's stretches, which begin at `left` and `right` in the node's, are solved, and the node's is as long as before
pub record ChildrenSolved (height left right : ℕ) (leaves : List Window) (before scratch : List ℤ) : Type 0 where
  pub half : ℕ
  pub end : ℕ
  pub planned : Planned height half left right end
  pub both : Halves (height - 1) left right leaves scratch
  pub same_length : length scratch ≡ length before

-- the two halves of a stretch after each was lent, solved, and came back
module _ (height half own middle end : ℕ) (leaves : List Window) (scratch left right : List ℤ) (planned : Planned height half own middle end) (fits : end ≤ length scratch)
    (left-kept : length left ≡ length (take (middle - own) (drop own scratch)))
    (right_kept : length right ≡ length (take (end - middle) (drop middle (put_mid own (middle - own) scratch left)))) where
  abbrev first_back : List ℤ
  first_back = put_mid own (middle - own) scratch left

  abbrev both_back : List ℤ
  both_back = put_mid middle (end - middle) first_back right

  first_length : length first_back ≡ length scratch
  first_length = same_len_mid own (middle - own) scratch left left-kept

  both_length : length both_back ≡ length scratch
  both_length = same_len_mid middle (end - middle) first_back right right_kept ∙ first_length

  left_long : length left ≡ middle - own
  left_long = left-kept ∙ mid_len own middle scratch (omega (arith, planned.end_is))

  right_long : length right ≡ end - middle
  right_long = right_kept ∙ mid_len middle end first_back (omega (arith, first_length))

  pub halves : Solved (height - 1) (take half leaves) (at left) → Solved (height - 1) (drop half leaves) (at right) → Halves (height - 1) own middle leaves both_back
  halves left_solved right_solved =
      let left_places : middle ≡ own + places (height - 1) = planned.middle_is in
      let right_places : end ≡ middle + places (height - 1) = planned.end_is in
      record {
        left_solved =
            solved_same (height - 1) (take (2 ^ (height - 1)) leaves) (at left) (λ place. at both_back (own + place))
            (λ place inside.
            sym (before_part middle end first_back right (omega arith) (omega (arith, first_length)) right_long (own + place) (omega arith)
            ∙ in_part own middle scratch left (omega arith) (omega arith) left_long place (omega arith)))
            (subst (λ (count : ℕ). Solved (height - 1) (take count leaves) (at left)) planned.half_is left_solved);
        right_solved =
            solved_same (height - 1) (drop (2 ^ (height - 1)) leaves) (at right) (λ place. at both_back (middle + place))
            (λ place inside. sym (in_part middle end first_back right (omega arith) (omega (arith, first_length)) right_long place (omega arith)))
            (subst (λ (count : ℕ). Solved (height - 1) (drop count leaves) (at right)) planned.half_is right_solved);
      }

  pub children_back : Solved (height - 1) (take half leaves) (at left) → Solved (height - 1) (drop half leaves) (at right) → ChildrenSolved height own middle leaves scratch both_back
  children_back left_solved right_solved = record { half = half; end = end; planned = planned; both = halves left_solved right_solved; same_length = both_length }

-- so they are after the setpoints and their bands were cut, and each half was solved
module _ {margin height half own middle end cut slots : ℕ} {setpoints : List ℤ} {bands : List ℕ} {before : List ℤ} (left right : List ℤ) (planned : Planned height half own middle end)
    (solvable : Solvable margin height setpoints bands before) (slots_are : slots ≡ length setpoints) (cut_is : cut ≡ min half slots) where
  pub parts_solved : length left ≡ length (take (middle - own) (drop own before)) → length right ≡ length (take (end - middle) (drop middle (put_mid own (middle - own) before left)))
      → Solved (height - 1) (windows_for margin (take cut bands) (take cut setpoints)) (at left)
      → Solved (height - 1) (windows_for margin (take (slots - cut) (drop cut bands)) (take (slots - cut) (drop cut setpoints))) (at right)
      → ChildrenSolved height own middle (windows_for margin bands setpoints) before (put_mid middle (end - middle) (put_mid own (middle - own) before left) right)
  parts_solved left-kept right_kept left_solved right_solved =
      let cut_at : cut ≡ min half (length setpoints) = omega arith in
      children_back height half own middle end (windows_for margin bands setpoints) before left right planned (omega (arith, planned.all_places, solvable.room)) left-kept right_kept
      (front_solved margin bands setpoints solvable.each_band (height - 1) half cut cut_at (at left) left_solved)
      (back_solved margin bands setpoints solvable.each_band (height - 1) half cut cut_at (at right) slots slots_are right_solved)

-- once the answers of both children are combined, the whole stretch is solved
module _ {height left right : ℕ} {leaves : List Window} {before scratch : List ℤ} (solved : ChildrenSolved height left right leaves before scratch) where
  of_node : Planned height solved.half left right solved.end
  of_node = solved.planned

  own_first_place : left ≡ own_places (suc (height - 1))
  own_first_place = of_node.own_is ∙ ap own_places of_node.below

  pub whole_solved : (after : List ℤ) → CombinedAt scratch after left right → Solved height leaves (at after)
  whole_solved after combined-at =
      subst (λ (levels : ℕ). Solved levels leaves (at after)) (sym of_node.below)
      (node_solved (height - 1) left right leaves scratch solved.both after own_first_place of_node.middle_is combined-at)

  pub children_combinable : Usable leaves → height ≤ 9 → places height ≤ length before → Combinable scratch left right
  children_combinable usable in_tree fits =
      combinable (height - 1) left right leaves scratch solved.both usable own_first_place of_node.middle_is
      (omega (arith, of_node.end_is, of_node.all_places, solved.same_length)) (omega (arith, of_node.end_is, of_node.few_places)) (omega arith)
