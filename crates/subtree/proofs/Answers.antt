-- The answer of a subtree: its windows are sorted, at least one and at most one a slot, and its number is below that of its slots.
use mathlib.Core.Path.{◌≡◌, refl, sym, ap, subst, ◌∙◌}
use mathlib.Core.List.{List, [], ◌∷◌}
use Prim.Native.Nat.{ℕ, zero, suc, ◌+◌, ◌^◌, ◌≤◌, ◌<◌}
use native.Mathlib.Omega.{arith}
use lib.Dec.{T}
use lib.ListN.{length, get_or, take, drop}
use lib.Seq.{get_or-drop}
use mir.Facts.{yes_and}
use Rattle.windows.specs.Windows.{Window, covers, Sorted, meet}
use Rattle.windows.proofs.Sets.{covers_meet, sorted_meet, sorted_join, length_meet, length_join}
use Rattle.subtree.specs.Answer.{Answer, every_value, combined_by, combined, answer}
use Rattle.subtree.specs.Stretch.{Usable}
use Rattle.subtree.proofs.Slots.{every_value_usable}

-- where what is in both sets is listed as empty, no value is in both
pub apart : (left right : List Window) → Sorted 0 left → Sorted 0 right → meet left right ≡ [] → (v : ℕ) → T (covers left v) → T (covers right v) → ⊥
unfolding covers
apart left right left_sorted right_sorted none v in_left in_right =
    let empty = sym (covers_meet left right 0 0 left_sorted right_sorted v) ∙ ap (λ (windows : List Window). covers windows v) none in
    subst T empty (yes_and (covers left v) (covers right v) in_left in_right)

-- ---- sorted

combined_sorted : (left right : Answer) → Sorted 0 left.windows → Sorted 0 right.windows → Sorted 0 (combined left right).windows
combined_sorted left right left_sorted right_sorted = split (meet left.windows right.windows) refl (sorted_meet left.windows right.windows 0 left_sorted right_sorted)
  where
    split : (both : List Window) → meet left.windows right.windows ≡ both → Sorted 0 both → Sorted 0 (combined_by both left right).windows
    split [] none both-sorted =
        sorted_join left.windows right.windows 0 left_sorted right_sorted (apart left.windows right.windows left_sorted right_sorted none)
    split (window ∷ windows) is both-sorted = both-sorted

-- what is true of each element of a list, and of what stands for one that is not there, is true of each element of its parts
module _ {A : Type 0} (True : A → Type 0) (otherwise : A) where
  true_of_front : True otherwise → (count : ℕ) (list : List A) (place : ℕ) → True (get_or list place otherwise) → True (get_or (take count list) place otherwise)
  true_of_front of-otherwise zero list place here = of-otherwise
  true_of_front of-otherwise (suc count) [] place here = of-otherwise
  true_of_front of-otherwise (suc count) (a ∷ list) zero here = here
  true_of_front of-otherwise (suc count) (a ∷ list) (suc place) here = true_of_front of-otherwise count list place here

  true_of_back : (count : ℕ) (list : List A) (place : ℕ) → True (get_or list (count + place) otherwise) → True (get_or (drop count list) place otherwise)
  true_of_back count list place there = subst True (sym (get_or-drop count list place otherwise)) there

module _ {leaves : List Window} (usable : Usable leaves) (count : ℕ) where
  pub usable_take : Usable (take count leaves)
  usable_take = record { each = λ leaf. true_of_front (λ (window : Window). Sorted 0 (window ∷ [])) every_value every_value_usable count leaves leaf (usable.each leaf) }

  pub usable_drop : Usable (drop count leaves)
  usable_drop = record { each = λ leaf. true_of_back (λ (window : Window). Sorted 0 (window ∷ [])) every_value count leaves leaf (usable.each (count + leaf)) }

pub answer_sorted : {leaves : List Window} → Usable leaves → (height : ℕ) → Sorted 0 (answer height leaves).windows
unfolding answer
answer_sorted usable zero = usable.each 0
answer_sorted {leaves} usable (suc height) =
    combined_sorted (answer height (take (2 ^ height) leaves)) (answer height (drop (2 ^ height) leaves))
    (answer_sorted {leaves = take (2 ^ height) leaves} (usable_take usable (2 ^ height)) height)
    (answer_sorted {leaves = drop (2 ^ height) leaves} (usable_drop usable (2 ^ height)) height)

-- ---- how many windows, and the number

-- at least one window and at most so many, and a number below that
pub record Bounded (slots : ℕ) (one : Answer) : Type 0 where
  pub some : 1 ≤ length one.windows
  pub few : length one.windows ≤ slots
  pub below : one.number < slots

combined_bounded : (slots : ℕ) (left right : Answer) → Bounded slots left → Bounded slots right → Bounded (slots + slots) (combined left right)
combined_bounded slots left right of_left of_right = split (meet left.windows right.windows) (length_meet left.windows right.windows)
  where
    split : (both : List Window) → length both ≤ length left.windows + length right.windows → Bounded (slots + slots) (combined_by both left right)
    split [] short =
        let long = length_join left.windows right.windows in
        record { some = omega (arith, of_left.some); few = omega (arith, of_left.few, of_right.few); below = omega (arith, of_left.below, of_right.below) }
    split (window ∷ windows) short = record { some = omega arith; few = omega (arith, of_left.few, of_right.few); below = omega (arith, of_left.below, of_right.below) }

pub answer_bounded : (height : ℕ) (leaves : List Window) → Bounded (2 ^ height) (answer height leaves)
unfolding answer
answer_bounded zero leaves = record { some = omega arith; few = omega arith; below = omega arith }
answer_bounded (suc height) leaves =
    let double : 2 ^ height + 2 ^ height ≡ 2 ^ suc height = omega arith in
    subst (λ (slots : ℕ). Bounded slots (answer (suc height) leaves)) double
    (combined_bounded (2 ^ height) (answer height (take (2 ^ height) leaves)) (answer height (drop (2 ^ height) leaves))
    (answer_bounded height (take (2 ^ height) leaves)) (answer_bounded height (drop (2 ^ height) leaves)))
