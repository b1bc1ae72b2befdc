-- Two children of a node and a value in the node's set: where the children's sets meet the value is in both, else it is in one of the two.
-- So the children's numbers and one test say what both hand on, and no node below one whose number is 0 has a term: `no_terms`.
use mathlib.Core.Path.{◌≡◌, refl, sym, ap, subst, ◌∙◌}
use mathlib.Core.Bool.{Bool, true, false, not, ◌||◌, false≢true}
use mathlib.Core.List.{List, [], ◌∷◌}
use Prim.Native.Nat.{ℕ, zero, suc, ◌+◌, ◌*◌, ◌^◌, ◌≤◌, ◌<◌}
use native.Mathlib.Omega.{arith}
use lib.Dec.{T}
use lib.IntN.{ℤ}
use lib.ListN.{take, drop}
use Rattle.limits.proofs.Tests.{both_hold}
use Rattle.windows.specs.Windows.{Window, covers, Sorted, meet}
use Rattle.windows.specs.Scratch.{at}
use Rattle.windows.proofs.Sets.{covers_meet, covers_join}
use Rattle.subtree.specs.Answer.{Answer, combined_by, combined, answer}
use Rattle.subtree.specs.Stretch.{answer_at, Usable}
use Rattle.subtree.proofs.Answers.{apart, answer_sorted, answer_bounded, usable_take, usable_drop}
use Rattle.trace.specs.Trace.{handed_on, level_terms, set_at, Handing, HandedToChildren}
use Rattle.trace.proofs.Chosen.{handed_on_inside, handed_on_outside, handed_on_in_set, handed_on_twice, lowest_there}

-- of two tests exactly one holds where either does and not both
other_fails : (one other : Bool) → (one || other) ≡ true → (T one → T other → ⊥) → other ≡ not one
other_fails true true either not_both = absurd (not_both tt tt)
other_fails true false either not_both = refl
other_fails false true either not_both = refl
other_fails false false either not_both = absurd (false≢true either)

module _ (left right : Answer) (left_sorted : Sorted 0 left.windows) (right_sorted : Sorted 0 right.windows) (value : ℕ) where
  -- the children's sets meet where the number of the node is the sum of theirs
  pub in_both : (combined left right).number ≤ left.number + right.number → covers (combined left right).windows value ≡ true
      → (covers left.windows value ≡ true) × (covers right.windows value ≡ true)
  in_both = split (meet left.windows right.windows) refl
    where
      split : (both : List Window) → meet left.windows right.windows ≡ both → (combined_by both left right).number ≤ left.number + right.number
          → covers (combined_by both left right).windows value ≡ true → (covers left.windows value ≡ true) × (covers right.windows value ≡ true)
      split [] none met inside = absurd (omega arith)
      split (window ∷ windows) is met inside =
          both_hold (covers left.windows value) (covers right.windows value)
          (sym (covers_meet left.windows right.windows 0 0 left_sorted right_sorted value) ∙ ap (λ (both : List Window). covers both value) is ∙ inside)

  -- and do not meet where it is greater
  pub in_one : left.number + right.number < (combined left right).number → covers (combined left right).windows value ≡ true
      → covers right.windows value ≡ not (covers left.windows value)
  in_one = split (meet left.windows right.windows) refl
    where
      split : (both : List Window) → meet left.windows right.windows ≡ both → left.number + right.number < (combined_by both left right).number
          → covers (combined_by both left right).windows value ≡ true → covers right.windows value ≡ not (covers left.windows value)
      split [] none greater inside =
          other_fails (covers left.windows value) (covers right.windows value) (sym (covers_join left.windows right.windows value) ∙ inside)
          (apart left.windows right.windows left_sorted right_sorted none value)
      split (window ∷ windows) is greater inside = absurd (omega arith)

  -- the number of a node is at least the sum of those of its children
  pub sum_at_most : left.number + right.number ≤ (combined left right).number
  sum_at_most = split (meet left.windows right.windows)
    where
      split : (both : List Window) → left.number + right.number ≤ (combined_by both left right).number
      split [] = omega arith
      split (window ∷ windows) = omega arith

-- what two children hand on
module _ {scratch : List ℤ} {left right value : ℕ} (pre : Handing scratch left right value) where
  abbrev on_left : Answer
  on_left = answer_at (at scratch) left

  abbrev on_right : Answer
  on_right = answer_at (at scratch) right

  number_is : at scratch 0 ≡ (combined on_left on_right).number
  number_is = ap (λ (one : Answer). one.number) pre.combines

  in_set : covers (combined on_left on_right).windows value ≡ true
  in_set = subst (λ (one : Answer). covers one.windows value ≡ true) pre.combines pre.in_set

  pub handed_to_both : at scratch 0 ≤ at scratch left + at scratch right → HandedToChildren scratch left right value value value
  handed_to_both met =
      let both = in_both on_left on_right pre.left_answered.sorted pre.right_answered.sorted value (omega (arith, number_is)) in_set in
      record { left_is = sym (handed_on_inside (set_at scratch left) value both.0); right_is = sym (handed_on_inside (set_at scratch right) value both.1) }

  module _ (apart-sets : at scratch left + at scratch right < at scratch 0) where
    other_is : covers (set_at scratch right) value ≡ not (covers (set_at scratch left) value)
    other_is = in_one on_left on_right pre.left_answered.sorted pre.right_answered.sorted value (omega (arith, number_is)) in_set

    pub handed_to_left : covers (set_at scratch left) value ≡ true → HandedToChildren scratch left right value value (at scratch (right + 2))
    handed_to_left inside =
        let outside : covers (set_at scratch right) value ≡ false = other_is ∙ ap not inside in
        record {
          left_is = sym (handed_on_inside (set_at scratch left) value inside);
          right_is = sym (handed_on_outside (set_at scratch right) value outside ∙ lowest_there pre.right_answered);
        }

    pub handed_to_right : covers (set_at scratch left) value ≡ false → HandedToChildren scratch left right value (at scratch (left + 2)) value
    handed_to_right outside =
        let inside : covers (set_at scratch right) value ≡ true = other_is ∙ ap not outside in
        record {
          left_is = sym (handed_on_outside (set_at scratch left) value outside ∙ lowest_there pre.left_answered);
          right_is = sym (handed_on_inside (set_at scratch right) value inside);
        }

-- where a subtree's number is 0 and the value that comes in is in the set of its top, no node of it has a term
pub no_terms : (depth height : ℕ) {leaves : List Window} (node value : ℕ) → Usable leaves → (answer height leaves).number ≡ 0
    → covers (answer height leaves).windows value ≡ true → level_terms depth height leaves node value ≡ []
unfolding level_terms answer
no_terms zero height node value within none inside = rw inside
no_terms (suc depth) zero node value within none inside = refl
no_terms (suc depth) (suc height) {leaves} node value within none inside =
    let left : Answer = answer height (take (2 ^ height) leaves) in
    let right : Answer = answer height (drop (2 ^ height) leaves) in
    let left_sorted = answer_sorted (usable_take within (2 ^ height)) height in
    let right_sorted = answer_sorted (usable_drop within (2 ^ height)) height in
    let sum = sum_at_most left right left_sorted right_sorted value in
    let both = in_both left right left_sorted right_sorted value (omega arith) inside in
    rw (
      handed_on_inside (combined left right).windows value inside,
      no_terms depth height (2 * node) value (usable_take within (2 ^ height)) (omega arith) both.0,
      no_terms depth height (2 * node + 1) value (usable_drop within (2 ^ height)) (omega arith) both.1,
    )

-- the terms below a node go by the value that it hands on
pub terms_below_lem : (depth height : ℕ) {leaves : List Window} → Usable leaves → 1 ≤ depth → (node value : ℕ)
    → level_terms depth height leaves node value ≡ level_terms depth height leaves node (handed_on (answer height leaves).windows value)
unfolding level_terms
terms_below_lem zero height within deeper node value = absurd (omega arith)
terms_below_lem (suc depth) zero within deeper node value = refl
terms_below_lem (suc depth) (suc height) {leaves} within deeper node value =
    rw (handed_on_twice (answer (suc height) leaves).windows (answer_sorted within (suc height)) (answer_bounded (suc height) leaves).some value)

-- so below a node whose number is 0 there are none, whatever value comes in
pub none_under : (depth height : ℕ) {leaves : List Window} → Usable leaves → 1 ≤ depth → (answer height leaves).number ≡ 0 → (node value : ℕ)
    → level_terms depth height leaves node value ≡ []
none_under depth height {leaves} within deeper none node value =
    terms_below_lem depth height within deeper node value
    ∙ no_terms depth height node _ within none (handed_on_in_set (answer height leaves).windows (answer_sorted within height) (answer_bounded height leaves).some value)
