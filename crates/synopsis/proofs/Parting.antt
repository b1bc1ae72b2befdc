-- A list of pairs taken apart into two lists, or put together from them, one pair a turn.
use Rattle.std.proofs.Common.{◌≡◌, List, [], ◌∷◌, map, ℕ, zero, suc, ◌+◌, ◌<◌, ◌≤◌, min, Bool, true, false, length, get_or, take, set, refl, sym, ap, ap₂, subst, ◌∙◌, arith}
use lib.Dec.{ltb}
use lib.ListN.{length-map, get_or-map}
use lib.Seq.{take_all, length-take-le}
use borrow.Author.Tests.{ltb-true, ltb-false}
use Rattle.std.proofs.lemmas.List.{get_or-take}
use Rattle.limits.proofs.Laying.{front_of, LaidSoFar, none_laid, one_more_laid, all_laid}
use Rattle.synopsis.specs.Pairs.{zipped, PairLaws, PairsApart}

module _ {A B D : Type 0} (make : A → B → D) where
  -- as many pairs as firsts, and the pair at a place
  zipped_long : (firsts : List A) (seconds : List B) → length firsts ≡ length seconds → length (zipped make firsts seconds) ≡ length firsts
  zipped_long [] seconds same = refl
  zipped_long (first ∷ firsts) [] same = absurd (omega arith)
  zipped_long (first ∷ firsts) (second ∷ seconds) same = let fewer : length (zipped make firsts seconds) ≡ length firsts = zipped_long firsts seconds (omega arith) in omega arith

  zipped_at : (firsts : List A) (seconds : List B) (a : A) (b : B) (d : D) (k : ℕ) → k < length firsts → length firsts ≡ length seconds → make (get_or firsts k a) (get_or seconds k b) ≡ get_or (zipped make firsts seconds) k d
  zipped_at [] seconds a b d k below same = absurd (omega arith)
  zipped_at (first ∷ firsts) [] a b d k below same = absurd (omega arith)
  zipped_at (first ∷ firsts) (second ∷ seconds) a b d zero below same = refl
  zipped_at (first ∷ firsts) (second ∷ seconds) a b d (suc k) below same = zipped_at firsts seconds a b d k (omega arith) (omega arith)

  -- no more pairs than firsts, or than seconds
  pub zipped_firsts : (n : ℕ) (firsts : List A) (seconds : List B) → length (zipped make (take n firsts) (take n seconds)) ≤ length firsts
  zipped_firsts zero firsts seconds = omega arith
  zipped_firsts (suc n) [] seconds = omega arith
  zipped_firsts (suc n) (first ∷ firsts) [] = omega arith
  zipped_firsts (suc n) (first ∷ firsts) (second ∷ seconds) =
      let fewer : length (zipped make (take n firsts) (take n seconds)) ≤ length firsts = zipped_firsts n firsts seconds in
      omega arith

  pub zipped_seconds : (n : ℕ) (firsts : List A) (seconds : List B) → length (zipped make (take n firsts) (take n seconds)) ≤ length seconds
  zipped_seconds zero firsts seconds = omega arith
  zipped_seconds (suc n) [] seconds = omega arith
  zipped_seconds (suc n) (first ∷ firsts) [] = omega arith
  zipped_seconds (suc n) (first ∷ firsts) (second ∷ seconds) =
      let fewer : length (zipped make (take n firsts) (take n seconds)) ≤ length seconds = zipped_seconds n firsts seconds in
      omega arith

-- the parts of the first i pairs are laid over the fronts of two lists: the invariant of the loop that takes pairs apart
pub record ApartSoFar {B D : Type 0} (first_of : D → ℕ) (second_of : D → B) (pairs : List D) (count : ℕ) (firsts₀ firsts : List ℕ) (seconds₀ seconds : List B) (i : ℕ) : Type 0 where
  pub inside : i ≤ count
  pub firsts_laid : LaidSoFar (map first_of (take count pairs)) firsts₀ firsts i
  pub seconds_laid : LaidSoFar (map second_of (take count pairs)) seconds₀ seconds i

module _ {B D : Type 0} {make : ℕ → B → D} {first_of : D → ℕ} {second_of : D → B} {together : List ℕ → List B → List D} (laws : PairLaws make first_of second_of together) where
  zipped_again : (pairs : List D) → zipped make (map first_of pairs) (map second_of pairs) ≡ pairs
  zipped_again [] = refl
  zipped_again (pair ∷ pairs) = ap₂ (λ (d : D) (l : List D). d ∷ l) (laws.made pair) (zipped_again pairs)

  -- pairs taken apart and put together again
  pub put_again : (pairs : List D) → together (map first_of pairs) (map second_of pairs) ≡ pairs
  put_again pairs = laws.together_is (map first_of pairs) (map second_of pairs) ∙ zipped_again pairs

  -- pairs that are taken apart, or as many of the first as there are places
  module _ (pairs : List D) (firsts : List ℕ) (seconds : List B) (same : length firsts ≡ length seconds) (count : ℕ) (count_is : count ≡ min (length pairs) (length firsts)) where
    as_many : length (take count pairs) ≡ count
    as_many = length-take-le count pairs (omega arith)

    first_pairs : take count pairs ≡ take (length firsts) pairs
    first_pairs = by_many (ltb (length firsts) (length pairs)) refl
      where
        by_many : (many : Bool) → ltb (length firsts) (length pairs) ≡ many → take count pairs ≡ take (length firsts) pairs
        by_many true is =
            let full : count ≡ length firsts = omega (arith, ltb-true (length firsts) (length pairs) is) in
            ap (λ (k : ℕ). take k pairs) full
        by_many false is = take_all count pairs (omega (arith, ltb-false (length firsts) (length pairs) is)) ∙ sym (take_all (length firsts) pairs (ltb-false (length firsts) (length pairs) is))

    pub none_apart : ApartSoFar first_of second_of pairs count firsts firsts seconds seconds 0
    none_apart = record { inside = omega arith; firsts_laid = none_laid _ firsts; seconds_laid = none_laid _ seconds }

    module _ {now : List ℕ} {now' : List B} {i : ℕ} (so_far : ApartSoFar first_of second_of pairs count firsts now seconds now' i) where
      firsts_many : length (map first_of (take count pairs)) ≡ count
      firsts_many = length-map (take count pairs) first_of ∙ as_many

      seconds_many : length (map second_of (take count pairs)) ≡ count
      seconds_many = length-map (take count pairs) second_of ∙ as_many

      pub one_more_apart : (pair : D) → pair ≡ get_or pairs i pair → i < count → ApartSoFar first_of second_of pairs count firsts (set now i (first_of pair)) seconds (set now' i (second_of pair)) (i + 1)
      one_more_apart pair is more =
          let there : get_or (take count pairs) i pair ≡ pair = get_or-take count pairs i pair more ∙ sym is in
          let first_there : get_or (map first_of (take count pairs)) i (first_of pair) ≡ first_of pair = get_or-map first_of (take count pairs) i pair ∙ ap first_of there in
          let second_there : get_or (map second_of (take count pairs)) i (second_of pair) ≡ second_of pair = get_or-map second_of (take count pairs) i pair ∙ ap second_of there in
          record {
            inside = omega arith;
            firsts_laid =
                subst (λ (a : ℕ). LaidSoFar (map first_of (take count pairs)) firsts (set now i a) (i + 1)) first_there
                (one_more_laid (map first_of (take count pairs)) firsts now i (first_of pair) (omega (arith, firsts_many)) so_far.firsts_laid (omega (arith, firsts_many)));
            seconds_laid =
                subst (λ (a : B). LaidSoFar (map second_of (take count pairs)) seconds (set now' i a) (i + 1)) second_there
                (one_more_laid (map second_of (take count pairs)) seconds now' i (second_of pair) (omega (arith, seconds_many)) so_far.seconds_laid (omega (arith, seconds_many)));
          }

      pub pairs_apart : count ≤ i → PairsApart together pairs (length firsts) count now now'
      pairs_apart done =
          let firsts_are = ap (take count) (all_laid (map first_of (take count pairs)) firsts now i so_far.firsts_laid (omega (arith, firsts_many))) ∙ front_of (map first_of (take count pairs)) firsts count firsts_many in
          let seconds_are = ap (take count) (all_laid (map second_of (take count pairs)) seconds now' i so_far.seconds_laid (omega (arith, seconds_many))) ∙ front_of (map second_of (take count pairs)) seconds count seconds_many in
          record {
            of_firsts = omega (arith, so_far.firsts_laid.same_length);
            of_seconds = omega (arith, so_far.seconds_laid.same_length);
            together_are = ap₂ together firsts_are seconds_are ∙ put_again (take count pairs) ∙ first_pairs;
          }

  -- pairs put together, one a turn
  module _ (firsts : List ℕ) (seconds : List B) (same : length firsts ≡ length seconds) where
    pub all_many : length (together firsts seconds) ≡ length firsts
    all_many = ap length (laws.together_is firsts seconds) ∙ zipped_long make firsts seconds same

    pub one_more_put : (before now : List D) (i : ℕ) → length firsts ≤ length before → LaidSoFar (together firsts seconds) before now i → i < length firsts
        → (first : ℕ) (second : B) → first ≡ get_or firsts i first → second ≡ get_or seconds i second
        → LaidSoFar (together firsts seconds) before (set now i (make first second)) (i + 1)
    one_more_put before now i fits so_far more first second first_is second_is =
        let there : get_or (together firsts seconds) i (make first second) ≡ make first second =
        ap (λ (l : List D). get_or l i (make first second)) (laws.together_is firsts seconds)
        ∙ sym (zipped_at make firsts seconds first second (make first second) i more same)
        ∙ sym (ap₂ make first_is second_is) in
        subst (λ (d : D). LaidSoFar (together firsts seconds) before (set now i d) (i + 1)) there
        (one_more_laid (together firsts seconds) before now i (make first second) (omega (arith, all_many)) so_far (omega (arith, all_many)))
