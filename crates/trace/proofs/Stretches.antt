-- The stretch of a subtree: the answers of a node and of its two children, the children's own stretches,
-- and the terms of a level, which are the same for all leaves whose answers the stretch holds.
use mathlib.Core.Path.{◌≡◌, refl, sym, ap, ap₂, ◌∙◌, subst}
use mathlib.Core.Bool.{true}
use mathlib.Core.List.{List, [], ◌++◌}
use mathlib.Core.Logic.{⊎_elim}
use Prim.Native.Nat.{ℕ, zero, suc, ◌+◌, ◌*◌, ◌-◌, ◌^◌, ◌≤◌, ◌<◌}
use native.Mathlib.Omega.{arith}
use lib.IntN.{ℤ}
use lib.ListN.{length, take, drop}
use borrow.Rule.Slice.PartMut.{mid_len}
use Rattle.histogram.proofs.Order.{below_or_not}
use Rattle.claims.specs.Inner.{with_term}
use Rattle.windows.specs.Windows.{Window, covers, Sorted}
use Rattle.windows.specs.Scratch.{at}
use Rattle.windows.proofs.Reading.{at_part}
use Rattle.subtree.specs.Answer.{Answer, combined, answer}
use Rattle.subtree.specs.Stretch.{own_places, places, answer_at, Solved, Usable, Planned}
use Rattle.subtree.proofs.Answers.{answer_sorted, answer_bounded, usable_take, usable_drop}
use Rattle.subtree.proofs.Places.{own_first, places_within}
use Rattle.subtree.proofs.Solving.{solved_top, solved_same, count_of, child_answer}
use Rattle.trace.specs.Trace.{choice, handed_on, level_terms, upper_terms, set_at, Answered, Handing, SolvedStretch}
use Rattle.trace.proofs.Siblings.{none_under}

-- ---- one answer

answered_at : (height : ℕ) {leaves : List Window} → Usable leaves → (scratch : List ℤ) (place : ℕ) → answer_at (at scratch) place ≡ answer height leaves
    → place + places height ≤ length scratch → place + places height ≤ 12286 → Answered scratch place
answered_at height {leaves} within scratch place is fits few =
    let bounds = answer_bounded height leaves in
    let count : at scratch (place + 1) ≡ length (answer height leaves).windows = count_of (at scratch) place _ is in
    record {
      room = omega (arith, own_first height, bounds.few);
      near = omega (arith, own_first height, bounds.few);
      not_empty = omega (arith, bounds.some);
      sorted = subst (λ (one : Answer). Sorted 0 one.windows) (sym is) (answer_sorted within height);
    }

module _ {height : ℕ} {scratch : List ℤ} (stretch : SolvedStretch height scratch) where
  pub top_is : answer_at (at scratch) 0 ≡ answer height stretch.leaves
  top_is = solved_top height stretch.leaves (at scratch) stretch.solved

  pub answered : Answered scratch 0
  answered = answered_at height stretch.usable scratch 0 top_is (omega (arith, stretch.long)) (omega (arith, places_within height stretch.in_tree))

-- ---- the children

-- a stretch within another, as a part of it
pub part_solved : (height : ℕ) (leaves : List Window) (scratch : List ℤ) (start end : ℕ) → end ≡ start + places height
    → Solved height leaves (λ place. at scratch (start + place)) → Solved height leaves (at (take (end - start) (drop start scratch)))
part_solved height leaves scratch start end end_is solved =
    solved_same height leaves _ (at (take (end - start) (drop start scratch)))
    (λ place inside. sym (at_part scratch start (end - start) place (omega arith))) solved

-- where the node's number is above 0
module _ {height half own middle end : ℕ} (planned : Planned height half own middle end) {scratch : List ℤ} (stretch : SolvedStretch height scratch) (some : 0 < at scratch 0) where
  -- the children's leaves
  abbrev pub left_leaves : List Window
  left_leaves = take (2 ^ (height - 1)) stretch.leaves

  abbrev pub right_leaves : List Window
  right_leaves = drop (2 ^ (height - 1)) stretch.leaves

  both_solved : Solved (suc (height - 1)) stretch.leaves (at scratch)
  both_solved = subst (λ (of : ℕ). Solved of stretch.leaves (at scratch)) planned.below stretch.solved

  terms_needed : 0 < (answer (suc (height - 1)) stretch.leaves).number
  terms_needed = omega (arith, ap (λ (one : Answer). one.number) (solved_top (suc (height - 1)) stretch.leaves (at scratch) both_solved))

  pub left_solved : Solved (height - 1) left_leaves (λ place. at scratch (own + place))
  unfolding Solved
  left_solved =
      let start : own_places (suc (height - 1)) ≡ own = omega (arith, planned.own_is, ap own_places planned.below) in
      subst (λ (from : ℕ). Solved (height - 1) left_leaves (λ place. at scratch (from + place))) start (both_solved.1 terms_needed).0

  pub right_solved : Solved (height - 1) right_leaves (λ place. at scratch (middle + place))
  unfolding Solved
  right_solved =
      let start : own_places (suc (height - 1)) + places (height - 1) ≡ middle = omega (arith, planned.own_is, planned.middle_is, ap own_places planned.below) in
      subst (λ (from : ℕ). Solved (height - 1) right_leaves (λ place. at scratch (from + place))) start (both_solved.1 terms_needed).1

  pub left_is : answer_at (at scratch) own ≡ answer (height - 1) left_leaves
  left_is = child_answer (height - 1) own left_leaves (at scratch) left_solved

  pub right_is : answer_at (at scratch) middle ≡ answer (height - 1) right_leaves
  right_is = child_answer (height - 1) middle right_leaves (at scratch) right_solved

  pub handing : {value : ℕ} → covers (set_at scratch 0) value ≡ true → Handing scratch own middle value
  unfolding answer
  handing in_set = record {
    left_answered =
        answered_at (height - 1) (usable_take stretch.usable (2 ^ (height - 1))) scratch own left_is
        (omega (arith, planned.middle_is, planned.end_is, planned.all_places, stretch.long)) (omega (arith, planned.middle_is, planned.end_is, planned.few_places));
    right_answered =
        answered_at (height - 1) (usable_drop stretch.usable (2 ^ (height - 1))) scratch middle right_is
        (omega (arith, planned.end_is, planned.all_places, stretch.long)) (omega (arith, planned.end_is, planned.few_places));
    combines = top_is stretch ∙ ap (λ (of : ℕ). answer of stretch.leaves) planned.below ∙ sym (ap₂ combined left_is right_is);
    in_set = in_set;
  }

  abbrev pub left_stretch : SolvedStretch (height - 1) (take (middle - own) (drop own scratch))
  left_stretch = record {
    leaves = left_leaves;
    usable = usable_take stretch.usable (2 ^ (height - 1));
    solved = part_solved (height - 1) left_leaves scratch own middle planned.middle_is left_solved;
    in_tree = omega (arith, stretch.in_tree);
    long = rw (mid_len own middle scratch (omega (arith, planned.end_is, planned.all_places, stretch.long))) (omega (arith, planned.middle_is));
  }

  abbrev pub right_stretch : SolvedStretch (height - 1) (take (end - middle) (drop middle scratch))
  right_stretch = record {
    leaves = right_leaves;
    usable = usable_drop stretch.usable (2 ^ (height - 1));
    solved = part_solved (height - 1) right_leaves scratch middle end planned.end_is right_solved;
    in_tree = omega (arith, stretch.in_tree);
    long = rw (mid_len middle end scratch (omega (arith, planned.all_places, stretch.long))) (omega (arith, planned.end_is));
  }

-- ---- the same terms

pub same_level : (depth height : ℕ) {leaves leaves' : List Window} (read : ℕ → ℕ) (node value : ℕ) → Usable leaves → Usable leaves' → Solved height leaves read → Solved height leaves' read
    → level_terms depth height leaves node value ≡ level_terms depth height leaves' node value
unfolding level_terms Solved
same_level zero height {leaves} {leaves'} read node value usable usable' one other =
    ap (λ (of : Answer). with_term node (choice of.windows value) []) (sym (solved_top height leaves read one) ∙ solved_top height leaves' read other)
same_level (suc depth) zero read node value usable usable' one other = refl
same_level (suc depth) (suc height) {leaves} {leaves'} read node value usable usable' one other =
    let same : answer (suc height) leaves ≡ answer (suc height) leaves' = sym one.0 ∙ other.0 in
    let numbers_same : (answer (suc height) leaves).number ≡ (answer (suc height) leaves').number = ap (λ (of : Answer). of.number) same in
    let next : ℕ = handed_on (answer (suc height) leaves').windows value in
    ⊎_elim
    (λ some.
    let half : ℕ = 2 ^ height in
    rw same
    (ap₂ ◌++◌
    (same_level depth height (λ place. read (own_places (suc height) + place)) (2 * node) next (usable_take usable half) (usable_take usable' half) (one.1 some).0 (other.1 (omega arith)).0)
    (same_level depth height (λ place. read (own_places (suc height) + places height + place)) (2 * node + 1) next (usable_drop usable half) (usable_drop usable' half) (one.1 some).1
    (other.1 (omega arith)).1)))
    (λ none. none_under (suc depth) (suc height) usable (omega arith) (omega arith) node value ∙ sym (none_under (suc depth) (suc height) usable' (omega arith) (omega arith) node value))
    (below_or_not 0 (answer (suc height) leaves).number)

pub same_upper : (count height : ℕ) {leaves leaves' : List Window} (read : ℕ → ℕ) (value : ℕ) → Usable leaves → Usable leaves' → Solved height leaves read → Solved height leaves' read
    → upper_terms count height leaves value ≡ upper_terms count height leaves' value
unfolding upper_terms
same_upper zero height read value usable usable' one other = refl
same_upper (suc count) height read value usable usable' one other =
    ap₂ ◌++◌ (same_upper count height read value usable usable' one other) (same_level count height read 1 value usable usable' one other)
