-- What the selections from a list have: `those` has exactly the elements that pass a test, `foremost` exactly those that pass a test of two against every element,
-- `least_by` exactly those whose number is least, `greatest_by` those whose number is greatest.
use mathlib.Core.Path.{◌≡◌, refl, subst}
use mathlib.Core.Bool.{Bool, true, false, cond}
use mathlib.Core.Logic.{⊎_elim}
use mathlib.Core.List.Memᴰ
use mathlib.Core.List.{List, [], ◌∷◌, Memᴰ}
use Prim.Native.Nat.{ℕ, ◌≤◌}
use lib.Dec.{T, leb, leb→le, le→leb}
use mir.Facts.{and_yes, yes_and}
use Rattle.claims.specs.First.{those, all_pass, foremost, least_by, greatest_by}

module _ {A : Type 0} where
  -- a list has exactly the elements of which something holds
  pub record Exactly (list : List A) (Holds : A → Type 0) : Type 0 where
    pub has : (element : A) → Holds element → Memᴰ element list
    pub only : (element : A) → Memᴰ element list → Holds element

  -- an element of which it holds, and which passes a test against every such element
  pub record Foremost (test : A → A → Bool) (Holds : A → Type 0) (element : A) : Type 0 where
    pub holds : Holds element
    pub against : (other : A) → Holds other → T (test element other)

  module _ (test : A → Bool) where
    -- an element of a list that passes a test
    abbrev Passing : List A → A → Type 0
    Passing list element = Memᴰ element list × T (test element)

    -- `those` has exactly these
    pub those_exactly : (list : List A) → Exactly (those test list) (Passing list)
    unfolding those
    those_exactly [] = record { has = λ element both. both.0; only = λ element among. absurd (Memᴰ.not-nil among) }
    those_exactly (first ∷ others) = split (test first) refl (those_exactly others)
      where
        later_one : Exactly (those test others) (Passing others) → (element : A) → Memᴰ element (those test others) → Passing (first ∷ others) element
        later_one later element among = let found = later.only element among in (Memᴰ.tail found.0, found.1)

        split : (answer : Bool) → test first ≡ answer → Exactly (those test others) (Passing others)
            → Exactly (cond answer (first ∷ those test others) (those test others)) (Passing (first ∷ others))
        split true passes later = record {
          has = λ element both.
              ⊎_elim (λ same. Memᴰ.head same) (λ among. Memᴰ.tail (later.has element (among, both.1))) (Memᴰ.cases_cons both.0);
          only = λ element among.
              ⊎_elim
              (λ same. (Memᴰ.head same, rw (same, passes) tt))
              (λ further. later_one later element further)
              (Memᴰ.cases_cons among);
        }
        split false fails later = record {
          has = λ element both.
              ⊎_elim
              (λ same. absurd (subst T fails (subst (λ (x : A). T (test x)) same both.1)))
              (λ among. later.has element (among, both.1))
              (Memᴰ.cases_cons both.0);
          only = later_one later;
        }

    -- where each element passes, all pass
    each_test_passes : (list : List A) → ((element : A) → Memᴰ element list → T (test element)) → T (all_pass test list)
    unfolding all_pass
    each_test_passes [] each = tt
    each_test_passes (first ∷ others) each =
        yes_and (test first) (all_pass test others) (each first (Memᴰ.head refl)) (each_test_passes others (λ element among. each element (Memᴰ.tail among)))

    -- and where all pass, each does
    each_passes : (list : List A) → T (all_pass test list) → (element : A) → Memᴰ element list → T (test element)
    unfolding all_pass
    each_passes [] all element among = absurd (Memᴰ.not-nil among)
    each_passes (first ∷ others) all element among =
        let both = and_yes (test first) (all_pass test others) all in
        ⊎_elim (λ same. rw same both.0) (λ later. each_passes others both.1 element later) (Memᴰ.cases_cons among)

  -- from a list that has exactly the elements of which something holds, `foremost` selects exactly the foremost of them
  pub foremost_exactly : (test : A → A → Bool) {list : List A} {Holds : A → Type 0} → Exactly list Holds → Exactly (foremost test list) (Foremost test Holds)
  foremost_exactly test {list} exactly =
      let selection = those_exactly (λ (one : A). all_pass (test one) list) list in
      record {
        has = λ element passes.
            selection.has element (exactly.has element passes.holds, each_test_passes (test element) list (λ other among. passes.against other (exactly.only other among)));
        only = λ element among.
            let found = selection.only element among in
            record {
              holds = exactly.only element found.0;
              against = λ other holds. each_passes (test element) list found.1 other (exactly.has other holds);
            };
      }

  -- an element of which something holds, and whose number is no greater than that of any such element
  pub record Least (number : A → ℕ) (Holds : A → Type 0) (element : A) : Type 0 where
    pub holds : Holds element
    pub no_greater : (other : A) → Holds other → number element ≤ number other

  -- `least_by` selects exactly these
  pub least_exactly : (number : A → ℕ) {list : List A} {Holds : A → Type 0} → Exactly list Holds → Exactly (least_by number list) (Least number Holds)
  least_exactly number exactly =
      let selection = foremost_exactly (λ (one other : A). leb (number one) (number other)) exactly in
      record {
        has = λ element least.
            selection.has element (record { holds = least.holds; against = λ other holds. le→leb (number element) (number other) (least.no_greater other holds) });
        only = λ element among.
            let found = selection.only element among in
            record { holds = found.holds; no_greater = λ other holds. leb→le (number element) (number other) (found.against other holds) };
      }

  -- an element of which something holds, and whose number is no smaller than that of any such element
  pub record Greatest (number : A → ℕ) (Holds : A → Type 0) (element : A) : Type 0 where
    pub holds : Holds element
    pub no_smaller : (other : A) → Holds other → number other ≤ number element

  -- `greatest_by` selects exactly these
  pub greatest_exactly : (number : A → ℕ) {list : List A} {Holds : A → Type 0} → Exactly list Holds → Exactly (greatest_by number list) (Greatest number Holds)
  greatest_exactly number exactly =
      let selection = foremost_exactly (λ (one other : A). leb (number other) (number one)) exactly in
      record {
        has = λ element greatest.
            selection.has element (record { holds = greatest.holds; against = λ other holds. le→leb (number other) (number element) (greatest.no_smaller other holds) });
        only = λ element among.
            let found = selection.only element among in
            record { holds = found.holds; no_smaller = λ other holds. leb→le (number other) (number element) (found.against other holds) };
      }
