-- What a reader expects of `restored` and of the greatest error: a slot's own term is its value, no term at all leaves the rest value,
-- a term at the root alone reaches every slot, and the greatest of some numbers is the least that none of them exceeds.
use mathlib.Core.Path.{◌≡◌, refl, ap, ◌∙◌}
use mathlib.Core.List.{List, [], ◌∷◌, Memᴰ}
use mathlib.Core.Logic.{⊎_elim}
use Prim.Native.Nat.{ℕ, zero, suc, ◌+◌, ◌/◌, ◌<◌, ◌≤◌}
use native.Mathlib.Omega.{arith}
use lib.IntN.{ℤ}
use lib.Pow.{pow_pos}
use borrow.Author.Tests.{eq-eqb, ne_eqb}
use Rattle.histogram.specs.declared.Term.{Term}
use Rattle.histogram.specs.Tree.{height, padded}
use Rattle.histogram.specs.Terms.{Valid, term_or}
use Rattle.histogram.specs.Restored.{restored, restored_at, restored_slot, path_nodes}
use Rattle.histogram.specs.Errors.{greatest}
use Rattle.histogram.proofs.Above.{from_above}
use Rattle.histogram.proofs.Ascent.{ValidFrom, first_above, rest_valid}
use Rattle.std.proofs.lemmas.Bool.{cases_lt}

module _ (otherwise : ℤ) (first : Term) (others : List Term) where
  found_first : term_or otherwise (first ∷ others) first.node ≡ first.value
  unfolding term_or
  found_first = rw (eq-eqb first.node first.node refl)

  found_later : (node : ℕ) → first.node < node → term_or otherwise (first ∷ others) node ≡ term_or otherwise others node
  unfolding term_or
  found_later node above = rw (ne_eqb first.node node (λ same. omega arith))

-- a term of a valid list lies above the list's bound
member_above : {term : Term} {last end : ℕ} {terms : List Term} → ValidFrom last end terms → Memᴰ term terms → last < term.node
member_above valid (Memᴰ.head is-first) = omega (arith, first_above valid, ap (λ (t : Term). t.node) is-first)
member_above valid (Memᴰ.tail among-others) = omega (arith, first_above valid, member_above (rest_valid valid) among-others)

-- and a look-up of its node finds it
member_found : {term : Term} {last end : ℕ} {terms : List Term} (otherwise : ℤ) → ValidFrom last end terms → Memᴰ term terms
    → term_or otherwise terms term.node ≡ term.value
member_found otherwise valid (Memᴰ.head is-first) = rw is-first (found_first otherwise _ _)
member_found otherwise valid (Memᴰ.tail among-others) =
    found_later otherwise _ _ _ (member_above (rest_valid valid) among-others) ∙ member_found otherwise (rest_valid valid) among-others

-- a slot with a term of its own restores that term's value
pub own_term : (n : ℕ) (rest : ℤ) (terms : List Term) (slot : ℕ) (value : ℤ) → Valid n terms
    → Memᴰ (record { node = padded n + slot; value = value }) terms → restored_slot n rest terms slot ≡ value
own_term n rest terms slot value valid among =
    from_above rest terms (padded n + slot) (omega (arith, pow_pos (height n))) ∙ member_found _ (record { passes = valid }) among

on_no_path : (rest : ℤ) (count node : ℕ) → restored rest [] count node ≡ rest
unfolding restored term_or
on_no_path rest zero node = refl
on_no_path rest (suc count) node = on_no_path rest count (node / 2)

-- with no term at all every slot restores the rest value
pub no_terms : (n : ℕ) (rest : ℤ) (slot : ℕ) → restored_slot n rest [] slot ≡ rest
no_terms n rest slot = on_no_path rest (path_nodes (padded n + slot)) (padded n + slot)

abbrev pub root_term : ℤ → List Term
root_term value = record { node = 1; value = value } ∷ []

-- on the way up from any node, the root comes last
under_root : (rest value : ℤ) (bound node : ℕ) → node ≤ bound → 1 ≤ node → restored_at rest (root_term value) node ≡ value
unfolding term_or
under_root rest value zero node low from = absurd (omega arith)
under_root rest value (suc bound) node low from =
    from_above rest (root_term value) node from
    ∙ ⊎_elim
    (λ below. rw (ne_eqb 1 node (λ same. omega arith)) (under_root rest value bound (node / 2) (omega arith) (omega arith)))
    (λ at_root. rw (eq-eqb 1 node (omega arith)))
    (cases_lt 1 node)

-- under a term at the root alone every slot restores the root's value
pub root_alone : (n : ℕ) (rest value : ℤ) (slot : ℕ) → restored_slot n rest (root_term value) slot ≡ value
root_alone n rest value slot = under_root rest value (padded n + slot) (padded n + slot) (omega arith) (omega (arith, pow_pos (height n)))

pub greatest_bound : (f : ℕ → ℕ) (count bound : ℕ) → ((k : ℕ) → k < count → f k ≤ bound) → greatest f count ≤ bound
unfolding greatest
greatest_bound f zero bound each = omega arith
greatest_bound f (suc count) bound each = omega (arith, greatest_bound f count bound (λ k below. each k (omega arith)), each count (omega arith))

pub each_within : (f : ℕ → ℕ) (count k : ℕ) → k < count → f k ≤ greatest f count
unfolding greatest
each_within f zero k below = absurd (omega arith)
each_within f (suc count) k below =
    ⊎_elim
    (λ before. omega (arith, each_within f count k before))
    (λ from. let last : k ≡ count = omega arith in omega (arith, ap f last))
    (cases_lt k count)
