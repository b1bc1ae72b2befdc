-- Two lists of terms each of which comes before the other are the same, so a first best synopsis is the only one.
-- By the order of two numbers, of two values and of two terms.
use mathlib.Core.Path.{◌≡◌, refl, sym, ap, ap₂}
use mathlib.Core.Bool.{Bool, true, false, not, ◌||◌, ◌&&◌}
use mathlib.Core.Logic.{⊎_elim}
use mathlib.Core.List.{List, [], ◌∷◌}
use Prim.Native.Nat.{ℕ, ◌<◌}
use native.Mathlib.Omega.{arith}
use lib.Dec.{T, ltb}
use lib.IntN.{ℤ, pos, negsuc}
use lib.Signed.{lt_z}
use borrow.Author.Tests.{lt-ltb, le-ltb, eq-eqb, ne_eqb}
use Rattle.histogram.specs.declared.Term.{Term}
use Rattle.histogram.proofs.Order.{below_or_not}
use Rattle.claims.specs.First.{comes_before, in_order, First}

-- what two tests of order, one each way, say of two things: not both pass, and where neither does, the two are the same
abbrev Ordered : (before after : Bool) → (Same : Type 0) → Type 0
Ordered true true Same = ⊥
Ordered true false Same = Unit {0}
Ordered false true Same = Unit {0}
Ordered false false Same = Same

-- the three cases of two numbers
by_order : {A : Type 0} (a b : ℕ) → (a < b → A) → (b < a → A) → (a ≡ b → A) → A
by_order a b lower higher same = ⊎_elim lower (λ from. ⊎_elim higher (λ up_to_lem. same (omega arith)) (below_or_not b a)) (below_or_not a b)

module _ {Same : Type 0} where
  -- two numbers, by the test of the lower one
  numbers_ordered : (a b : ℕ) → (a ≡ b → Same) → Ordered (ltb a b) (ltb b a) Same
  numbers_ordered a b same =
      by_order a b
      (λ lower. rw (lt-ltb a b lower, le-ltb b a (omega arith)) tt)
      (λ higher. rw (le-ltb a b (omega arith), lt-ltb b a higher) tt)
      (λ equal. rw (le-ltb a b (omega arith), le-ltb b a (omega arith)) (same equal))

  -- two values
  values_ordered : (x y : ℤ) → (x ≡ y → Same) → Ordered (lt_z x y) (lt_z y x) Same
  values_ordered (pos a) (pos b) same = numbers_ordered a b (λ equal. same (ap pos equal))
  values_ordered (pos a) (negsuc b) same = tt
  values_ordered (negsuc a) (pos b) same = tt
  values_ordered (negsuc a) (negsuc b) same = numbers_ordered b a (λ equal. same (ap negsuc (sym equal)))

-- terms compare first by node, then by value
module _ (term other : Term) where
  pub lower_node : term.node < other.node → T (comes_before term other)
  lower_node lower = rw (lt-ltb term.node other.node lower) tt

  pub lower_value : term.node ≡ other.node → T (lt_z term.value other.value) → T (comes_before term other)
  lower_value same lower = rw (le-ltb term.node other.node (omega arith), eq-eqb term.node other.node same) lower

  pub not_lower : term.node ≡ other.node → T (not (lt_z other.value term.value)) → T (not (comes_before other term))
  not_lower same no_lower = rw (le-ltb other.node term.node (omega arith), eq-eqb other.node term.node (sym same)) no_lower

-- two terms: their nodes decide, and where these are the same, their values
terms_ordered : (term other : Term) → Ordered (comes_before term other) (comes_before other term) (term ≡ other)
terms_ordered term other =
    let a : ℕ = term.node in
    let b : ℕ = other.node in
    by_order a b
    (λ lower. rw (lt-ltb a b lower, le-ltb b a (omega arith), ne_eqb b a (λ equal. omega arith)) tt)
    (λ higher. rw (le-ltb a b (omega arith), ne_eqb a b (λ equal. omega arith), lt-ltb b a higher) tt)
    (λ equal. rw (le-ltb a b (omega arith), eq-eqb a b equal, le-ltb b a (omega arith), eq-eqb b a (sym equal))
    (values_ordered term.value other.value (λ alike. ap₂ (λ (node : ℕ) (value : ℤ). record { node = node; value = value }) equal alike)))

-- two lists each of which comes before the other are the same
in_order_same : (terms others : List Term) → T (in_order terms others) → T (in_order others terms) → terms ≡ others
unfolding in_order
in_order_same [] [] forth back = refl
in_order_same [] (other ∷ others) forth back = absurd back
in_order_same (term ∷ terms) [] forth back = absurd forth
in_order_same (term ∷ terms) (other ∷ others) forth back =
    split (comes_before term other) (comes_before other term) (terms_ordered term other) (in_order_same terms others) forth back
  where
    split : (before after : Bool) → Ordered before after (term ≡ other) → (T (in_order terms others) → T (in_order others terms) → terms ≡ others)
        → T (before || (not after && in_order terms others)) → T (after || (not before && in_order others terms)) → Path (List Term) (term ∷ terms) (other ∷ others)
    split true true ordered later forth back = absurd ordered
    split true false ordered later forth back = absurd back
    split false true ordered later forth back = absurd forth
    split false false same later forth back = ap₂ (λ (first : Term) (more : List Term). first ∷ more) same (later forth back)

-- of a profile, rest value and bands only one synopsis is the first
pub first_only : {profile : List ℤ} {rest : ℤ} {bands : List ℕ} {terms other : List Term} → First profile rest bands terms → First profile rest bands other → terms ≡ other
first_only {terms = terms} {other = other} one another = in_order_same terms other (one.first other another.best) (another.first terms one.best)
