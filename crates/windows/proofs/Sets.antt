-- The sets of sorted lists of windows: what `meet` and `join` cover, that they are sorted, and how long they are.
use mathlib.Core.Path.{◌≡◌, refl, sym, ap, ◌∙◌}
use mathlib.Core.Bool.{Bool, true, false, cond, ◌&&◌, ◌||◌, and-true, and-false, or_assoc, or-false}
use mathlib.Core.List.{List, [], ◌∷◌, ◌++◌}
use Prim.Native.Nat.{ℕ, suc, ◌+◌, ◌≤◌, ◌<◌, min, max}
use native.Mathlib.Omega.{arith}
use lib.Dec.{T, leb, ltb, leb→le, le→leb}
use lib.ListN.{length}
use mir.Facts.{and_yes, yes_and}
use borrow.Author.Tests.{ltb-true, ltb-false, leb-true, leb-false, le-leb}
use Rattle.limits.proofs.Tests.{either_first, either_second}
use Rattle.windows.specs.Windows.{Window, inside, covers, Sorted, between, meet, join}

-- ---- tests

-- two tests that pass in the same cases are equal
same_test : (one other : Bool) → (T one → T other) → (T other → T one) → one ≡ other
same_test true true there back = refl
same_test true false there back = absurd (there tt)
same_test false true there back = absurd (back tt)
same_test false false there back = refl

fails : (test : Bool) → (T test → ⊥) → test ≡ false
fails test wrong = same_test test false wrong (λ never. absurd never)

-- what follows from each of two tests follows from either
from_either : (one other : Bool) {Holds : Type 0} → (T one → Holds) → (T other → Holds) → T (one || other) → Holds
from_either true other first second passes = first tt
from_either false other first second passes = second passes

-- ---- one window

is_inside : (window : Window) (v : ℕ) → window.low ≤ v → v ≤ window.high → T (inside window v)
is_inside window v above below = yes_and (leb window.low v) (leb v window.high) (le→leb window.low v above) (le→leb v window.high below)

not_below : (window : Window) (v : ℕ) → T (inside window v) → window.low ≤ v
not_below window v within = leb→le window.low v (and_yes (leb window.low v) (leb v window.high) within).0

not_above : (window : Window) (v : ℕ) → T (inside window v) → v ≤ window.high
not_above window v within = leb→le v window.high (and_yes (leb window.low v) (leb v window.high) within).1

-- of two windows without a value in both, the one that starts first ends before the other starts
ends_before : (first second : Window) → first.low ≤ second.low → (T (inside first second.low) → ⊥) → first.high < second.low
ends_before first second lower apart = split (leb second.low first.high) refl
  where
    split : (test : Bool) → leb second.low first.high ≡ test → first.high < second.low
    split true reached = absurd (apart (is_inside first second.low lower (leb-true second.low first.high reached)))
    split false passed = leb-false second.low first.high passed

-- ---- one sorted list

-- windows that lie at `from` or above lie at a lower number or above
pub sorted_lower : {lower from : ℕ} (windows : List Window) → lower ≤ from → Sorted from windows → Sorted lower windows
unfolding Sorted
sorted_lower [] low sorted = tt
sorted_lower (window ∷ windows) low sorted = (omega (arith, sorted.0), sorted.1, sorted.2, sorted.3)

-- a value that is covered is at `from` or above
pub covers_above : (windows : List Window) (from v : ℕ) → Sorted from windows → T (covers windows v) → from ≤ v
unfolding Sorted covers
covers_above [] from v sorted covered = absurd covered
covers_above (window ∷ windows) from v sorted covered =
    from_either (inside window v) (covers windows v) (λ within. omega (arith, sorted.0, not_below window v within))
    (λ later. omega (arith, sorted.0, sorted.1, covers_above windows (suc window.high) v sorted.3 later)) covered

-- and at most 40,000
pub covers_within : (windows : List Window) (from v : ℕ) → Sorted from windows → T (covers windows v) → v ≤ 40000
unfolding Sorted covers
covers_within [] from v sorted covered = absurd covered
covers_within (window ∷ windows) from v sorted covered =
    from_either (inside window v) (covers windows v) (λ within. omega (arith, sorted.2, not_above window v within)) (covers_within windows (suc window.high) v sorted.3) covered

module _ (window : Window) (windows : List Window) (from : ℕ) (sorted : Sorted from (window ∷ windows)) where
  pub first_within : window.low ≤ 40000
  unfolding Sorted
  first_within = omega (arith, sorted.1, sorted.2)

  pub first_inside : T (covers (window ∷ windows) window.low)
  unfolding Sorted covers
  first_inside = either_first (inside window window.low) (covers windows window.low) (is_inside window window.low (omega arith) sorted.1)

  pub none_below : (v : ℕ) → v < window.low → T (covers (window ∷ windows) v) → ⊥
  unfolding Sorted
  none_below v below covered =
      omega (arith, covers_above (window ∷ windows) window.low v (omega arith, sorted.1, sorted.2, sorted.3) covered)

-- a value above the first window is covered where a later one covers it
pub above_first : (window : Window) (windows : List Window) (v : ℕ) → window.high < v → covers (window ∷ windows) v ≡ covers windows v
unfolding covers
above_first window windows v above = rw (fails (inside window v) (λ within. omega (arith, not_above window v within)))

-- and one up to the first window's high end is covered where it is not below the low end
pub up_to_first : (window : Window) (windows : List Window) (from v : ℕ) → Sorted from (window ∷ windows) → v ≤ window.high → covers (window ∷ windows) v ≡ leb window.low v
unfolding covers Sorted
up_to_first window windows from v sorted below =
    rw (fails (covers windows v) (λ later. omega (arith, covers_above windows (suc window.high) v sorted.3 later)), le-leb v window.high below, and-true, or-false)

-- ---- what is in both of two sorted lists

-- a list in two parts covers what either covers
covers_append : (one other : List Window) (v : ℕ) → covers (one ++ other) v ≡ (covers one v || covers other v)
unfolding covers
covers_append [] other v = refl
covers_append (window ∷ one) other v = rw (covers_append one other v, or_assoc)

-- between two ends lies what is inside the window of these ends
between_covers : (window : Window) (v : ℕ) → covers (between window.low window.high) v ≡ inside window v
unfolding covers
between_covers window v = split (leb window.low window.high) refl
  where
    split : (test : Bool) → leb window.low window.high ≡ test → covers (cond test (window ∷ []) []) v ≡ inside window v
    split true some = or-false (inside window v)
    split false crossed =
        sym (fails (inside window v) (λ within. omega (arith, leb-false window.low window.high crossed, not_below window v within, not_above window v within)))

-- the window where two windows meet
abbrev meeting : Window → Window → Window
meeting a b = record { low = max a.low b.low; high = min a.high b.high }

inside_meeting : (a b : Window) (v : ℕ) → inside (meeting a b) v ≡ (inside a v && inside b v)
inside_meeting a b v = same_test (inside (meeting a b) v) (inside a v && inside b v) there back
  where
    there : T (inside (meeting a b) v) → T (inside a v && inside b v)
    there within =
        let above = not_below (meeting a b) v within in
        let below = not_above (meeting a b) v within in
        yes_and (inside a v) (inside b v) (is_inside a v (omega arith) (omega arith)) (is_inside b v (omega arith) (omega arith))

    back : T (inside a v && inside b v) → T (inside (meeting a b) v)
    back within =
        let in-a = (and_yes (inside a v) (inside b v) within).0 in
        let in_b = (and_yes (inside a v) (inside b v) within).1 in
        is_inside (meeting a b) v (omega (arith, not_below a v in-a, not_below b v in_b)) (omega (arith, not_above a v in-a, not_above b v in_b))

-- of two lists, the left one's first window a ends first, so that it meets nothing of the right one after its first window b
left_ends : (a b left right : Bool) → (T a → T right → ⊥) → (a && b || (left && (b || right))) ≡ ((a || left) && (b || right))
left_ends true true left right apart = refl
left_ends true false true right apart = refl
left_ends true false false right apart = sym (fails right (apart tt))
left_ends false b left right apart = refl

right_ends : (a b left right : Bool) → (T b → T left → ⊥) → (a && b || ((a || left) && right)) ≡ ((a || left) && (b || right))
right_ends true true left right apart = refl
right_ends true false left right apart = refl
right_ends false true true right apart = absurd (apart tt tt)
right_ends false true false right apart = refl
right_ends false false left right apart = refl

pub covers_meet : (left right : List Window) (f g : ℕ) → Sorted f left → Sorted g right → (v : ℕ) → covers (meet left right) v ≡ (covers left v && covers right v)
unfolding covers meet Sorted
covers_meet [] right f g sorted-left sorted-right v = refl
covers_meet (a ∷ left) [] f g sorted-left sorted-right v = sym (and-false (inside a v || covers left v))
covers_meet (a ∷ left) (b ∷ right) f g sorted-left sorted-right v =
    covers_append (between (max a.low b.low) (min a.high b.high)) _ v
    ∙ ap (λ (first : Bool). first || covers (cond (ltb a.high b.high) (meet left (b ∷ right)) (meet (a ∷ left) right)) v) (between_covers (meeting a b) v ∙ inside_meeting a b v)
    ∙ split (ltb a.high b.high) refl (covers_meet left (b ∷ right) (suc a.high) g sorted-left.3 sorted-right v)
    (covers_meet (a ∷ left) right f (suc b.high) sorted-left sorted-right.3 v)
  where
    split : (test : Bool) → ltb a.high b.high ≡ test → covers (meet left (b ∷ right)) v ≡ (covers left v && covers (b ∷ right) v)
        → covers (meet (a ∷ left) right) v ≡ (covers (a ∷ left) v && covers right v)
        → (inside a v && inside b v || covers (cond test (meet left (b ∷ right)) (meet (a ∷ left) right)) v) ≡ (covers (a ∷ left) v && covers (b ∷ right) v)
    split true first without-a without-b =
        rw without-a
        (left_ends (inside a v) (inside b v) (covers left v) (covers right v)
        (λ in-a later. omega (arith, not_above a v in-a, ltb-true a.high b.high first, covers_above right (suc b.high) v sorted-right.3 later)))
    split false second without-a without-b =
        rw without-b
        (right_ends (inside a v) (inside b v) (covers left v) (covers right v)
        (λ in_b later. omega (arith, not_above b v in_b, ltb-false a.high b.high second, covers_above left (suc a.high) v sorted-left.3 later)))

-- what is in both lies where either list lies
sorted_both : (left right : List Window) (f g h : ℕ) → h ≤ max f g → Sorted f left → Sorted g right → Sorted h (meet left right)
unfolding meet Sorted
sorted_both [] right f g h low sorted-left sorted-right = tt
sorted_both (a ∷ left) [] f g h low sorted-left sorted-right = tt
sorted_both (a ∷ left) (b ∷ right) f g h low sorted-left sorted-right =
    split (ltb a.high b.high) refl (leb (max a.low b.low) (min a.high b.high)) refl
    (λ k under. sorted_both left (b ∷ right) (suc a.high) g k under sorted-left.3 sorted-right)
    (λ k under. sorted_both (a ∷ left) right f (suc b.high) k under sorted-left sorted-right.3)
  where
    split : (test : Bool) → ltb a.high b.high ≡ test → (some : Bool) → leb (max a.low b.low) (min a.high b.high) ≡ some
        → ((k : ℕ) → k ≤ max (suc a.high) g → Sorted k (meet left (b ∷ right))) → ((k : ℕ) → k ≤ max f (suc b.high) → Sorted k (meet (a ∷ left) right))
        → Sorted h (cond some (meeting a b ∷ []) [] ++ cond test (meet left (b ∷ right)) (meet (a ∷ left) right))
    split true first true held without-a without-b =
        (omega (arith, sorted-left.0, sorted-right.0), leb-true _ _ held, omega (arith, sorted-left.2), without-a (suc (min a.high b.high)) (omega arith))
    split true first false held without-a without-b = without-a h (omega (arith, sorted-left.0, sorted-left.1))
    split false second true held without-a without-b =
        (omega (arith, sorted-left.0, sorted-right.0), leb-true _ _ held, omega (arith, sorted-left.2), without-b (suc (min a.high b.high)) (omega arith))
    split false second false held without-a without-b = without-b h (omega (arith, sorted-right.0, sorted-right.1))

pub sorted_meet : (left right : List Window) (f : ℕ) → Sorted f left → Sorted f right → Sorted f (meet left right)
sorted_meet left right f sorted-left sorted-right = sorted_both left right f f f (omega arith) sorted-left sorted-right

pub length_meet : (left right : List Window) → length (meet left right) ≤ length left + length right
unfolding meet
length_meet [] right = omega arith
length_meet (a ∷ left) [] = omega arith
length_meet (a ∷ left) (b ∷ right) =
    split (ltb a.high b.high) (leb (max a.low b.low) (min a.high b.high)) (length_meet left (b ∷ right)) (length_meet (a ∷ left) right)
  where
    split : (test some : Bool) → length (meet left (b ∷ right)) ≤ length left + suc (length right) → length (meet (a ∷ left) right) ≤ suc (length left) + length right
        → length (cond some (meeting a b ∷ []) [] ++ cond test (meet left (b ∷ right)) (meet (a ∷ left) right)) ≤ suc (length left) + suc (length right)
    split true true without-a without-b = omega arith
    split true false without-a without-b = omega arith
    split false true without-a without-b = omega arith
    split false false without-a without-b = omega arith

-- ---- what is in either of two lists

-- a test that stands second may stand first
swapped : (a left b right : Bool) → (b || (a || left || right)) ≡ (a || left || (b || right))
swapped true left true right = refl
swapped true left false right = refl
swapped false true true right = refl
swapped false true false right = refl
swapped false false b right = refl

pub covers_join : (left right : List Window) (v : ℕ) → covers (join left right) v ≡ (covers left v || covers right v)
unfolding covers join
covers_join [] right v = refl
covers_join (a ∷ left) [] v = sym (or-false (inside a v || covers left v))
covers_join (a ∷ left) (b ∷ right) v = split (ltb b.low a.low) (covers_join (a ∷ left) right v) (covers_join left (b ∷ right) v)
  where
    split : (test : Bool) → covers (join (a ∷ left) right) v ≡ (covers (a ∷ left) v || covers right v) → covers (join left (b ∷ right)) v ≡ (covers left v || covers (b ∷ right) v)
        → covers (cond test (b ∷ join (a ∷ left) right) (a ∷ join left (b ∷ right))) v ≡ (covers (a ∷ left) v || covers (b ∷ right) v)
    split true without-b without-a = rw without-b (swapped (inside a v) (covers left v) (inside b v) (covers right v))
    split false without-b without-a = rw without-a (sym (or_assoc (inside a v) (covers left v) (inside b v || covers right v)))

pub sorted_join : (left right : List Window) (f : ℕ) → Sorted f left → Sorted f right → ((v : ℕ) → T (covers left v) → T (covers right v) → ⊥) → Sorted f (join left right)
unfolding covers join Sorted
sorted_join [] right f sorted-left sorted-right apart = sorted-right
sorted_join (a ∷ left) [] f sorted-left sorted-right apart = sorted-left
sorted_join (a ∷ left) (b ∷ right) f sorted-left sorted-right apart =
    split (ltb b.low a.low) refl
    (λ sorted. sorted_join (a ∷ left) right (suc b.high) sorted sorted-right.3
    (λ v on_left on_right. apart v on_left (either_second (inside b v) (covers right v) on_right)))
    (λ sorted. sorted_join left (b ∷ right) (suc a.high) sorted-left.3 sorted
    (λ v on_left on_right. apart v (either_second (inside a v) (covers left v) on_left) on_right))
  where
    a_apart : T (inside b a.low) → ⊥
    a_apart in_b = apart a.low (first_inside a left f sorted-left) (either_first (inside b a.low) (covers right a.low) in_b)

    b_apart : T (inside a b.low) → ⊥
    b_apart in-a = apart b.low (either_first (inside a b.low) (covers left b.low) in-a) (first_inside b right f sorted-right)

    split : (test : Bool) → ltb b.low a.low ≡ test → (Sorted (suc b.high) (a ∷ left) → Sorted (suc b.high) (join (a ∷ left) right))
        → (Sorted (suc a.high) (b ∷ right) → Sorted (suc a.high) (join left (b ∷ right)))
        → Sorted f (cond test (b ∷ join (a ∷ left) right) (a ∷ join left (b ∷ right)))
    split true lower rest_right rest-left =
        let before = ends_before b a (omega (arith, ltb-true b.low a.low lower)) a_apart in
        (sorted-right.0, sorted-right.1, sorted-right.2, rest_right (before, sorted-left.1, sorted-left.2, sorted-left.3))
    split false higher rest_right rest-left =
        let before = ends_before a b (ltb-false b.low a.low higher) b_apart in
        (sorted-left.0, sorted-left.1, sorted-left.2, rest-left (before, sorted-right.1, sorted-right.2, sorted-right.3))

pub length_join : (left right : List Window) → length (join left right) ≡ length left + length right
unfolding join
length_join [] right = omega arith
length_join (a ∷ left) [] = omega arith
length_join (a ∷ left) (b ∷ right) = split (ltb b.low a.low) (length_join (a ∷ left) right) (length_join left (b ∷ right))
  where
    split : (test : Bool) → length (join (a ∷ left) right) ≡ suc (length left) + length right → length (join left (b ∷ right)) ≡ length left + suc (length right)
        → length (cond test (b ∷ join (a ∷ left) right) (a ∷ join left (b ∷ right))) ≡ suc (length left) + suc (length right)
    split true without-b without-a = omega arith
    split false without-b without-a = omega arith
