-- Terms written behind earlier terms: together they are written one after the other.
use mathlib.Core.Path.{◌≡◌, refl, sym, ◌∙◌}
use mathlib.Core.List.{List, [], ◌∷◌, ◌++◌, map, append_assoc, map-append}
use Prim.Native.Nat.{ℕ, ◌+◌, ◌≤◌, ◌<◌}
use native.Mathlib.Numerals.{add-one}
use native.Mathlib.Omega.{arith}
use lib.IntN.{ℤ}
use lib.ListN.{length, take, drop, set, length-append, length-drop, length-map, take-append-drop}
use lib.Seq.{take_at, drop_at, drop-drop, length-take-le, set_split}
use Rattle.limits.specs.Answers.{laid}
use Rattle.limits.proofs.Laying.{length_laid}
use Rattle.histogram.specs.declared.Term.{Term}
use Rattle.histogram.specs.Terms.{nodes_of, values_of}
use Rattle.trace.specs.Trace.{laid_from, Appended, Traced}

-- ---- lists

module _ {A : Type 0} where
  -- nothing laid
  none_laid_from : (start : ℕ) (before : List A) → laid_from start [] before ≡ before
  none_laid_from start before = take-append-drop start before

  -- one element laid
  one_laid_from : (start : ℕ) (before : List A) (a : A) → start < length before → set before start a ≡ laid_from start (a ∷ []) before
  one_laid_from start before a inside =
      rw (drop-drop 1 start before, add-one start) (set_split before start a inside)

  length_laid_from : (start : ℕ) (written before : List A) → start + length written ≤ length before → length (laid_from start written before) ≡ length before
  length_laid_from start written before fits =
      let front = length-take-le start before (omega arith) in
      let rest = length-drop start before in
      let laid-long = length_laid written (drop start before) (omega arith) in
      omega (arith, length-append (take start before) (laid written (drop start before)))

  -- a list laid behind an earlier one
  laid_further : (start next : ℕ) (earlier later before : List A) → next ≡ start + length earlier → next ≤ length before
      → laid_from next later (laid_from start earlier before) ≡ laid_from start (earlier ++ later) before
  laid_further start next earlier later before next_is fits =
      let front : List A = take start before in
      let rest : List A = drop start before in
      let long : length (front ++ earlier) ≡ next = simp length-append (omega (arith, length-take-le start before (omega arith))) in
      let apart : laid_from start earlier before ≡ (front ++ earlier) ++ drop (length earlier) rest = sym (append_assoc front earlier (drop (length earlier) rest)) in
      let kept : take next (laid_from start earlier before) ≡ front ++ earlier = rw apart (take_at (front ++ earlier) (drop (length earlier) rest) next long) in
      let left : drop next (laid_from start earlier before) ≡ drop (length earlier) rest = rw apart (drop_at (front ++ earlier) (drop (length earlier) rest) next long) in
      rw (kept, left, drop-drop, length-append, append_assoc, append_assoc)

-- a field of terms, written behind the same field of earlier terms
fields_further : {A : Type 0} (field : Term → A) (start next : ℕ) (earlier later : List Term) (before : List A) {now after : List A} → next ≡ start + length earlier → next ≤ length before
    → now ≡ laid_from start (map field earlier) before → after ≡ laid_from next (map field later) now → after ≡ laid_from start (map field (earlier ++ later)) before
fields_further field start next earlier later before next_is fits now_is after_is =
    rw (after_is, now_is, map-append field earlier later) (laid_further start next (map field earlier) (map field later) before (rw (length-map earlier field) next_is) fits)

-- ---- terms

-- nothing was written
pub none_appended : (nodes : List ℕ) (values : List ℤ) (start : ℕ) → Appended [] nodes nodes values values start start
none_appended nodes values start = record { nodes_are = sym (none_laid_from start nodes); values_are = sym (none_laid_from start values); count_is = omega arith }

-- one term was written
pub one_appended : (term : Term) (nodes : List ℕ) (values : List ℤ) (start : ℕ) → start < length nodes → length values ≡ length nodes
    → Appended (term ∷ []) nodes (set nodes start term.node) values (set values start term.value) start (start + 1)
one_appended term nodes values start room same_room =
    record { nodes_are = one_laid_from start nodes term.node room; values_are = one_laid_from start values term.value (omega arith); count_is = refl }

-- as many elements as before
pub appended_long : {terms : List Term} {nodes nodes' : List ℕ} {values values' : List ℤ} {start count : ℕ} → Appended terms nodes nodes' values values' start count
    → start + length terms ≤ length nodes → length values ≡ length nodes → (length nodes' ≡ length nodes) × (length values' ≡ length nodes)
appended_long {terms} {nodes} {values = values} {start = start} appended room same_room = (
  rw appended.nodes_are (length_laid_from start (nodes_of terms) nodes (rw length-map room)),
  rw appended.values_are (length_laid_from start (values_of terms) values (simp length-map (omega arith)) ∙ same_room),
)

-- terms written behind earlier terms
pub appended_further : {earlier later : List Term} {nodes nodes' nodes'' : List ℕ} {values values' values'' : List ℤ} {start next count : ℕ}
    → start + length earlier ≤ length nodes → length values ≡ length nodes → Appended earlier nodes nodes' values values' start next → Appended later nodes' nodes'' values' values'' next count
    → Appended (earlier ++ later) nodes nodes'' values values'' start count
appended_further {earlier} {later} {nodes} {values = values} {start = start} {next} room same_room first second =
    let fits : next ≤ length nodes = omega (arith, first.count_is) in
    record {
      nodes_are = fields_further (λ term. term.node) start next earlier later nodes first.count_is fits first.nodes_are second.nodes_are;
      values_are = fields_further (λ term. term.value) start next earlier later values first.count_is (omega arith) first.values_are second.values_are;
      count_is = simp length-append (omega (arith, first.count_is, second.count_is));
    }

-- terms written behind none are written over the fronts
pub appended_first : {terms : List Term} {nodes nodes' : List ℕ} {values values' : List ℤ} {count : ℕ} → Appended terms nodes nodes' values values' 0 count
    → Traced terms nodes nodes' values values' count
appended_first first = record { nodes_are = first.nodes_are; values_are = first.values_are; count_is = omega (arith, first.count_is) }

-- and terms over the fronts are written behind none
from_none : {terms : List Term} {nodes nodes' : List ℕ} {values values' : List ℤ} {count : ℕ} → Traced terms nodes nodes' values values' count
    → Appended terms nodes nodes' values values' 0 count
from_none traced = record { nodes_are = traced.nodes_are; values_are = traced.values_are; count_is = omega (arith, traced.count_is) }

pub traced_long : {terms : List Term} {nodes nodes' : List ℕ} {values values' : List ℤ} {count : ℕ} → Traced terms nodes nodes' values values' count
    → length terms ≤ length nodes → length values ≡ length nodes → (length nodes' ≡ length nodes) × (length values' ≡ length nodes)
traced_long traced room same_room = appended_long (from_none traced) (omega arith) same_room

-- terms written behind those over the fronts
pub traced_further : {earlier later : List Term} {nodes nodes' nodes'' : List ℕ} {values values' values'' : List ℤ} {count more : ℕ}
    → length earlier ≤ length nodes → length values ≡ length nodes → Traced earlier nodes nodes' values values' count → Appended later nodes' nodes'' values' values'' count more
    → Traced (earlier ++ later) nodes nodes'' values values'' more
traced_further room same_room first second = appended_first (appended_further (omega arith) same_room (from_none first) second)
