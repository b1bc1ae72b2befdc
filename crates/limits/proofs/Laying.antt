-- Laws of `laid`: the length after laying, laying one element more by one store, and the loop that lays a list element by element.
use mathlib.Core.Path.{◌≡◌, refl, sym, ap, ap₂, ◌∙◌}
use mathlib.Core.List.{List, [], ◌∷◌, ◌++◌}
use Prim.Native.Nat.{ℕ, suc, ◌+◌, ◌<◌, ◌≤◌}
use native.Mathlib.Numerals.{add-one}
use native.Mathlib.Omega.{arith}
use lib.ListN.{length, get_or, take, drop, set, length-append, length-drop, length-set}
use lib.Seq.{drop-cons, set_at, append_snoc, take-suc, take_all, take_at, drop_at, length-take-le}
use Rattle.limits.specs.Answers.{laid}

module _ {ℓ} {A : Type ℓ} where
  pub length_laid : (written before : List A) → length written ≤ length before → length (laid written before) ≡ length before
  length_laid written before fits = simp (length-append, length-drop) (omega arith)

  -- the front of a list over which another was laid, and what lies past it
  pub front_of : (written before : List A) (count : ℕ) → length written ≡ count → take count (laid written before) ≡ written
  front_of written before count long = take_at written (drop (length written) before) count long

  pub past_front : (written before : List A) (count : ℕ) → length written ≡ count → drop count (laid written before) ≡ drop count before
  past_front written before count long = drop_at written (drop (length written) before) count long ∙ ap (λ (n : ℕ). drop n before) long

  pub room_for : (written before : List A) → length written ≤ length (laid written before)
  room_for written before = simp length-append (omega arith)

  pub laid_more : (written before : List A) (a : A) → length written < length before
      → set (laid written before) (length written) a ≡ laid (written ++ (a ∷ [])) before
  laid_more written before a fits =
      let one_more : suc (length written) ≡ length (written ++ (a ∷ [])) = simp length-append (omega arith) in
      ap (λ (rest : List A). set (written ++ rest) (length written) a) (drop-cons before (length written) a fits)
      ∙ set_at written _ (drop (suc (length written)) before) a (length written) refl
      ∙ sym (append_snoc written a (drop (suc (length written)) before))
      ∙ ap (λ (n : ℕ). (written ++ (a ∷ [])) ++ drop n before) one_more

  -- the first i elements of `source` are laid over `before`: the invariant of a loop that lays a list
  pub record LaidSoFar (source before now : List A) (i : ℕ) : Type ℓ where
    pub inside : i ≤ length source
    pub now_is : now ≡ laid (take i source) before
    pub same_length : length now ≡ length before

  pub none_laid : (source before : List A) → LaidSoFar source before before 0
  none_laid source before = record { inside = omega arith; now_is = refl; same_length = refl }

  pub one_more_laid : (source before now : List A) (i : ℕ) (d : A) → length source ≤ length before → LaidSoFar source before now i → i < length source
      → LaidSoFar source before (set now i (get_or source i d)) (i + 1)
  one_more_laid source before now i d fits so_far more =
      let longer : take (i + 1) source ≡ take i source ++ (get_or source i d ∷ []) = rw (add-one i) (take-suc source i d more) in
      let long : length (take i source) ≡ i = length-take-le i source so_far.inside in
      let next : set now i (get_or source i d) ≡ laid (take (i + 1) source) before =
      ap₂ (λ (l : List A) (k : ℕ). set l k (get_or source i d)) so_far.now_is (sym long)
      ∙ laid_more (take i source) before (get_or source i d) (omega arith)
      ∙ ap (λ (l : List A). laid l before) (sym longer) in
      record { inside = omega arith; now_is = next; same_length = simp length-set so_far.same_length }

  pub all_laid : (source before now : List A) (i : ℕ) → LaidSoFar source before now i → length source ≤ i → now ≡ laid source before
  all_laid source before now i so_far done = so_far.now_is ∙ ap (λ (l : List A). laid l before) (take_all i source done)
