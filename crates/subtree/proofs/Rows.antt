-- The answer of a subtree is what the theory of fewest terms says of its node, document 000, section 6.1: `answer_row`.
-- So what the whole tree needs is the number of fewest terms: `needed_is_fewest`, and over a profile `profile_needs`.
use mathlib.Core.Path.{◌≡◌, refl, sym, ap, subst, ◌∙◌}
use mathlib.Core.Bool.{Bool, true, false, ◌&&◌, ◌||◌, or-false}
use mathlib.Core.Logic.{⊎_elim}
use mathlib.Core.List.{List, [], ◌∷◌}
use Prim.Native.Nat.{ℕ, zero, suc, ◌+◌, ◌*◌, ◌-◌, ◌^◌, ◌≤◌, ◌<◌, min}
use native.Mathlib.Nat.{add-mul, mul_assoc, mul_left_comm}
use native.Mathlib.Omega.{arith}
use lib.Dec.{T, leb}
use borrow.Author.Tests.{leb-true, leb-false, le-leb, lt-leb}
use lib.IntN.{ℤ}
use lib.ListN.{length, get_or, take, drop, get_or-eq_default}
use lib.Seq.{get_or-drop, get_or-take}
use mir.Facts.{and_yes}
use Rattle.histogram.specs.Tree.{height, padded}
use Rattle.histogram.specs.Errors.{slots_of, setpoint_of, slot_band}
use Rattle.histogram.proofs.Order.{below_or_not}
use Rattle.fewest.specs.Tree.{binary}
use Rattle.fewest.specs.Cost.{cost, fewest}
use Rattle.fewest.specs.Row.{Inhabited, Row}
use Rattle.fewest.proofs.Rows.{same_set, row_needs, leaf_row}
use Rattle.fewest.proofs.Meeting.{sets_meet, sets_apart}
use Rattle.claims.specs.Best.{InRange}
use Rattle.claims.specs.Inner.{lifted, distance, accepts, fewest_terms}
use Rattle.claims.proofs.Lifted.{lifted_within}
use Rattle.claims.proofs.Range.{read_within}
use Rattle.windows.specs.Windows.{Window, inside, covers, Sorted, meet}
use Rattle.windows.proofs.Sets.{covers_meet, covers_join, first_within, first_inside, sorted_meet}
use Rattle.subtree.specs.Answer.{Answer, slot_windows, every_value, combined_by, combined, answer, needed, terms_for}
use Rattle.subtree.specs.Stretch.{Within, Usable}
use Rattle.subtree.proofs.Slots.{length_windows, window_at_lem, windows_usable}
use Rattle.subtree.proofs.Answers.{apart, usable_take, usable_drop, answer_sorted}

-- the windows of the leaves below a node of a height: each holds what its leaf accepts
pub record Below (accept : ℕ → ℕ → Bool) (height node : ℕ) (leaves : List Window) : Type 0 where
  pub each : (place : ℕ) → place < 2 ^ height → (value : ℕ) → value ≤ 40000 → accept (node * 2 ^ height + place) value ≡ inside (get_or leaves place every_value) value

-- the leaves below a node, counted by its left child
children_leaves : (height node : ℕ) → node * 2 ^ suc height ≡ 2 * node * 2 ^ height
children_leaves height node =
    let double : 2 ^ suc height ≡ 2 * 2 ^ height = omega arith in
    ap (λ (power : ℕ). node * power) double ∙ mul_left_comm node 2 (2 ^ height) ∙ sym (mul_assoc 2 node (2 ^ height))

module _ {accept : ℕ → ℕ → Bool} {height node : ℕ} {leaves : List Window} (below : Below accept (suc height) node leaves) where
  pub below_left : Below accept height (2 * node) (take (2 ^ height) leaves)
  below_left = record {
    each = λ place inside-half value within.
        let same : 2 * node * 2 ^ height + place ≡ node * 2 ^ suc height + place = omega (arith, children_leaves height node) in
        ap (λ (leaf : ℕ). accept leaf value) same ∙ below.each place (omega arith) value within
        ∙ ap (λ (window : Window). inside window value) (sym (get_or-take (2 ^ height) leaves place every_value inside-half));
  }

  pub below_right : Below accept height (2 * node + 1) (drop (2 ^ height) leaves)
  below_right = record {
    each = λ place inside-half value within.
        let same : (2 * node + 1) * 2 ^ height + place ≡ node * 2 ^ suc height + (2 ^ height + place) = omega (arith, children_leaves height node, add-mul (2 * node) 1 (2 ^ height)) in
        ap (λ (leaf : ℕ). accept leaf value) same ∙ below.each (2 ^ height + place) (omega arith) value within
        ∙ ap (λ (window : Window). inside window value) (sym (get_or-drop (2 ^ height) leaves place every_value));
  }

-- a value is within the band of a setpoint exactly where it is in the slot's window
near_is_inside : (band setpoint value : ℕ) → setpoint ≤ 40000 → value ≤ 40000 → leb (distance setpoint value) band ≡ inside (record { low = setpoint - band; high = min (setpoint + band) 40000 }) value
near_is_inside band setpoint value within value_within = split (leb (setpoint - band) value) refl (leb value (min (setpoint + band) 40000)) refl
  where
    split : (above : Bool) → leb (setpoint - band) value ≡ above → (below : Bool) → leb value (min (setpoint + band) 40000) ≡ below → leb (distance setpoint value) band ≡ (above && below)
    split true above true below = le-leb (distance setpoint value) band (omega (arith, leb-true (setpoint - band) value above, leb-true value (min (setpoint + band) 40000) below))
    split true above false below = lt-leb (distance setpoint value) band (omega (arith, leb-false value (min (setpoint + band) 40000) below))
    split false above below is = lt-leb (distance setpoint value) band (omega (arith, leb-false (setpoint - band) value above))

module _ (height node : ℕ) (accept : ℕ → ℕ → Bool) (left right : Answer)
    (left_sorted : Sorted 0 left.windows) (right_sorted : Sorted 0 right.windows)
    (left-row : Row 40000 (cost binary accept 40000 height (2 * node)) left.number (covers left.windows))
    (right-row : Row 40000 (cost binary accept 40000 height (2 * node + 1)) right.number (covers right.windows)) where
  combined_row : Row 40000 (cost binary accept 40000 (suc height) node) (combined left right).number (covers (combined left right).windows)
  combined_row = split (meet left.windows right.windows) refl (sorted_meet left.windows right.windows 0 left_sorted right_sorted)
    where
      covered : (v : ℕ) → covers (meet left.windows right.windows) v ≡ (covers left.windows v && covers right.windows v)
      covered = covers_meet left.windows right.windows 0 0 left_sorted right_sorted

      split : (both : List Window) → meet left.windows right.windows ≡ both → Sorted 0 both
          → Row 40000 (cost binary accept 40000 (suc height) node) (combined_by both left right).number (covers (combined_by both left right).windows)
      split [] none both-sorted =
          same_set
          (sets_apart accept 40000 height node left-row right-row
          (λ v within. apart left.windows right.windows left_sorted right_sorted none v))
          (λ v within. sym (covers_join left.windows right.windows v))
      split (window ∷ windows) is both-sorted =
          let in_both : T (covers left.windows window.low && covers right.windows window.low) =
          subst T (ap (λ (both : List Window). covers both window.low) (sym is) ∙ covered window.low) (first_inside window windows 0 both-sorted) in
          let in-each = and_yes (covers left.windows window.low) (covers right.windows window.low) in_both in
          same_set
          (sets_meet accept 40000 height node left-row right-row window.low (first_within window windows 0 both-sorted) in-each.0 in-each.1)
          (λ v within. sym (covered v) ∙ ap (λ (both : List Window). covers both v) is)

module _ (accept : ℕ → ℕ → Bool) where
  -- a node's answer is its row
  pub answer_row : (height node : ℕ) {leaves : List Window} → Usable leaves → Below accept height node leaves
      → Row 40000 (cost binary accept 40000 height node) (answer height leaves).number (covers (answer height leaves).windows)
  unfolding answer covers Sorted
  answer_row zero node {leaves} usable below =
      let window : Window = get_or leaves 0 every_value in
      let sorted = usable.each 0 in
      let accepted : (v : ℕ) → v ≤ 40000 → accept node v ≡ inside window v =
      λ v v-within. ap (λ (leaf : ℕ). accept leaf v) (omega arith) ∙ below.each 0 (omega arith) v v-within in
      let some_value : Inhabited 40000 (accept node) =
      record {
        value = window.low;
        within = omega (arith, sorted.1, sorted.2);
        inside = subst T (or-false (inside window window.low) ∙ sym (accepted window.low (omega (arith, sorted.1, sorted.2)))) (first_inside window [] 0 sorted);
      } in
      same_set (leaf_row binary accept 40000 node some_value) (λ v v-within. accepted v v-within ∙ sym (or-false (inside window v)))
  answer_row (suc height) node {leaves} usable below =
      combined_row height node accept (answer height (take (2 ^ height) leaves)) (answer height (drop (2 ^ height) leaves))
      (answer_sorted (usable_take usable (2 ^ height)) height) (answer_sorted (usable_drop usable (2 ^ height)) height)
      (answer_row height (2 * node) (usable_take usable (2 ^ height)) (below_left below)) (answer_row height (2 * node + 1) (usable_drop usable (2 ^ height)) (below_right below))

  -- the terms that the whole tree needs are the fewest terms
  pub needed_is_fewest : (height : ℕ) {leaves : List Window} → Usable leaves → Below accept height 1 leaves → (rest : ℕ) → rest ≤ 40000
      → needed (answer height leaves) rest ≡ fewest binary accept 40000 height rest
  needed_is_fewest height usable below rest within = sym (row_needs (answer_row height 1 usable below) rest within)

-- the leaves over a profile accept what is in the windows of its slots, and filler every value
pub slots_below : (profile : List ℤ) (bands : List ℕ) → length bands ≡ length profile → Within profile → Below (accepts profile bands) (height (length profile)) 1 (slot_windows bands profile)
slots_below profile bands each_band within = record {
  each = λ slot inside-tree value value_within.
      let here : 1 * 2 ^ height (length profile) + slot - padded (length profile) ≡ slot = omega arith in
      rw here (accepted slot value value_within);
}
  where
    accepted : (slot value : ℕ) → value ≤ 40000
        → (leb (slots_of profile) slot || leb (distance (lifted (setpoint_of profile slot)) value) (slot_band bands slot)) ≡ inside (get_or (slot_windows bands profile) slot every_value) value
    accepted slot value value_within =
        ⊎_elim
        (λ counts.
        rw (lt-leb (slots_of profile) slot counts, window_at_lem bands profile each_band slot counts)
        (near_is_inside (slot_band bands slot) (lifted (setpoint_of profile slot)) value (lifted_within (setpoint_of profile slot) (within.each slot)) value_within))
        (λ past.
        rw (
          le-leb (slots_of profile) slot past,
          get_or-eq_default (slot_windows bands profile) every_value {n = slot} (omega (arith, length_windows bands profile each_band)),
          le-leb 0 value (omega arith),
          le-leb value 40000 value_within,
        ))
        (below_or_not slot (slots_of profile))

-- so the terms that the tree over a profile needs for its bands are the fewest terms
module _ {profile : List ℤ} {rest : ℤ} (in_range : InRange profile rest) where
  pub profile_within : Within profile
  profile_within = record { each = read_within in_range }

  pub profile_needs : (bands : List ℕ) → length bands ≡ length profile → terms_for bands (height (length profile)) profile (lifted rest) ≡ fewest_terms profile rest bands
  profile_needs bands each_band =
      needed_is_fewest (accepts profile bands) (height (length profile)) (windows_usable bands profile_within) (slots_below profile bands each_band profile_within) (lifted rest)
      (lifted_within rest in_range.rest_within)
