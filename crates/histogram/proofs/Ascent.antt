-- What a valid list says of its terms: the first lies between the bounds and within ±20,000, the others are above it, and a node at or below the bound has no term.
use mathlib.Core.Path.{◌≡◌, refl}
use mathlib.Core.Bool.{not}
use mathlib.Core.List.{List, [], ◌∷◌}
use Prim.Native.Nat.{ℕ, zero, suc, ◌+◌, ◌<◌, ◌≤◌}
use native.Mathlib.Omega.{arith}
use lib.Dec.{T, ltb, ltb→lt, lt→ltb, nltb→le}
use lib.IntN.{ℤ, nat_abs}
use lib.ListN.{length, get_or}
use mir.Facts.{and_yes, yes_and}
use borrow.Author.Tests.{ne_eqb, le-ltb}
use Rattle.limits.specs.Limits.{beyond}
use Rattle.histogram.specs.declared.Term.{Term}
use Rattle.histogram.specs.Terms.{paired, valid_from, term_or}
use Rattle.histogram.specs.Inner.{Ascending}

-- the test as a statement, from which the bounds and the list can be inferred
pub record ValidFrom (last end : ℕ) (terms : List Term) : Type 0 where
  pub passes : T (valid_from last end terms)

module _ {last end : ℕ} {term : Term} {terms : List Term} (valid : ValidFrom last end (term ∷ terms)) where
  pub first_above : last < term.node
  unfolding valid_from
  first_above = ltb→lt last term.node (and_yes (ltb last term.node) _ valid.passes).0

  pub first_below : term.node < end
  unfolding valid_from
  first_below = ltb→lt term.node end (and_yes (ltb term.node end) _ (and_yes (ltb last term.node) _ valid.passes).1).0

  pub first_within : nat_abs term.value ≤ 20000
  unfolding valid_from
  first_within =
      nltb→le 20000 (nat_abs term.value)
      (and_yes (not (beyond 20000 term.value)) _ (and_yes (ltb term.node end) _ (and_yes (ltb last term.node) _ valid.passes).1).1).0

  pub rest_valid : ValidFrom term.node end terms
  unfolding valid_from
  rest_valid = record {
    passes = (and_yes (not (beyond 20000 term.value)) _ (and_yes (ltb term.node end) _ (and_yes (ltb last term.node) _ valid.passes).1).1).1;
  }

  -- the same list is valid above any bound below its first node
  pub valid_above : (bound : ℕ) → bound < term.node → ValidFrom bound end (term ∷ terms)
  unfolding valid_from
  valid_above bound below = record {
    passes = yes_and (ltb bound term.node) _ (lt→ltb bound term.node below) (and_yes (ltb last term.node) _ valid.passes).1;
  }

-- a term between the bounds and within ±20,000, before a list that is valid above it
pub valid_before : {last end : ℕ} (term : Term) {terms : List Term} → last < term.node → term.node < end → nat_abs term.value ≤ 20000 → ValidFrom term.node end terms
    → ValidFrom last end (term ∷ terms)
unfolding valid_from
valid_before {last} {end} term above below within valid = record {
  passes =
      yes_and (ltb last term.node) _ (lt→ltb last term.node above)
      (yes_and (ltb term.node end) _ (lt→ltb term.node end below) (yes_and (not (beyond 20000 term.value)) _ (rw (le-ltb 20000 (nat_abs term.value) within) tt) valid.passes));
}

pub no_term : {last end : ℕ} (terms : List Term) → ValidFrom last end terms → (otherwise : ℤ) (node : ℕ) → node ≤ last → term_or otherwise terms node ≡ otherwise
unfolding term_or
no_term [] valid otherwise node low = refl
no_term (term ∷ terms) valid otherwise node low =
    let above = first_above valid in
    rw (ne_eqb term.node node (λ same. omega arith)) (no_term terms (rest_valid valid) otherwise node (omega arith))

-- every node is above the bound
pub node_above : {last end : ℕ} (nodes : List ℕ) (values : List ℤ) → length nodes ≡ length values → ValidFrom last end (paired nodes values)
    → (q : ℕ) → q < length nodes → last < get_or nodes q 0
unfolding paired
node_above [] values same valid q within = absurd (omega arith)
node_above (node ∷ nodes) [] same valid q within = absurd (omega arith)
node_above (node ∷ nodes) (value ∷ values) same valid zero within = first_above valid
node_above (node ∷ nodes) (value ∷ values) same valid (suc q) within =
    omega (arith, first_above valid, node_above nodes values (omega arith) (rest_valid valid) q (omega arith))

-- and below the end
pub node_below : {last end : ℕ} (nodes : List ℕ) (values : List ℤ) → length nodes ≡ length values → last < end → ValidFrom last end (paired nodes values)
    → (k : ℕ) → get_or nodes k 0 < end
unfolding paired
node_below [] values same some valid k = omega arith
node_below (node ∷ nodes) [] same some valid k = absurd (omega arith)
node_below (node ∷ nodes) (value ∷ values) same some valid zero = first_below valid
node_below (node ∷ nodes) (value ∷ values) same some valid (suc k) = node_below nodes values (omega arith) (first_below valid) (rest_valid valid) k

-- a valid list's nodes ascend strictly
pub ascends : {last end : ℕ} (nodes : List ℕ) (values : List ℤ) → length nodes ≡ length values → ValidFrom last end (paired nodes values) → Ascending nodes
unfolding paired
ascends [] values same valid = record { each = λ p q less within. absurd (omega arith) }
ascends (node ∷ nodes) [] same valid = absurd (omega arith)
ascends (node ∷ nodes) (value ∷ values) same valid = record { each = pairwise (ascends nodes values (omega arith) (rest_valid valid)) }
  where
    pairwise : Ascending nodes → (p q : ℕ) → p < q → q < suc (length nodes) → get_or (node ∷ nodes) p 0 < get_or (node ∷ nodes) q 0
    pairwise after p zero less within = absurd (omega arith)
    pairwise after zero (suc q) less within = node_above nodes values (omega arith) (rest_valid valid) q (omega arith)
    pairwise after (suc p) (suc q) less within = after.each p q (omega arith) (omega arith)

-- strictly ascending nodes between two bounds are few
pub valid_few : {last end : ℕ} (terms : List Term) → last < end → ValidFrom last end terms → last + length terms < end
valid_few [] below proper = omega arith
valid_few (term ∷ terms) below proper = omega (arith, first_above proper, valid_few terms (first_below proper) (rest_valid proper))
