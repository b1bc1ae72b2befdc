-- `term_lists` has exactly the lists whose nodes ascend strictly among the nodes that it goes through and whose values are within ±20,000.
use mathlib.Core.Path.{◌≡◌, refl, sym, ap, ◌∙◌, subst}
use mathlib.Core.Logic.{⊎_elim}
use mathlib.Core.List.Memᴰ
use mathlib.Core.List.{List, [], ◌∷◌, flat_map, Memᴰ}
use Prim.Native.Nat.{ℕ, zero, suc, ◌+◌, ◌-◌, ◌*◌, ◌<◌, ◌≤◌}
use native.Mathlib.Omega.{arith}
use lib.IntN.{ℤ, nat_abs}
use lib.Pow.{pow_pos}
use Rattle.histogram.specs.declared.Term.{Term}
use Rattle.histogram.specs.Tree.{height, padded}
use Rattle.histogram.specs.Terms.{valid_from, Valid}
use Rattle.histogram.proofs.Ascent.{ValidFrom, first_above, first_below, first_within, rest_valid, valid_above, valid_before}
use Rattle.histogram.proofs.Order.{below_or_not}
use Rattle.claims.specs.Inner.{lifted, lowered}
use Rattle.claims.specs.First.{lowest_values, term_lists, all_synopses}
use Rattle.claims.proofs.Lifted.{lifted_within, lowered_lifted, lowered_within}
use Rattle.claims.proofs.Selected.{Exactly}

module _ {A B : Type 0} (f : A → List B) where
  -- an element of one of the lists that a function gives is among all of them
  in_flat_map : {element : B} {argument : A} (list : List A) → Memᴰ argument list → Memᴰ element (f argument) → Memᴰ element (flat_map f list)
  unfolding flat_map
  in_flat_map [] among given = absurd (Memᴰ.not-nil among)
  in_flat_map {element} (first ∷ others) (Memᴰ.head same) given = Memᴰ.append_left (flat_map f others) (subst (λ (x : A). Memᴰ element (f x)) same given)
  in_flat_map (first ∷ others) (Memᴰ.tail among) given = Memᴰ.append_right (f first) (in_flat_map others among given)

  -- and an element of all of them is one of the lists'
  of_flat_map : {element : B} (list : List A) → Memᴰ element (flat_map f list) → (argument : A) × Memᴰ argument list × Memᴰ element (f argument)
  unfolding flat_map
  of_flat_map [] among = absurd (Memᴰ.not-nil among)
  of_flat_map (first ∷ others) among =
      ⊎_elim
      (λ given. (first, Memᴰ.head refl, given))
      (λ later. let found = of_flat_map others later in (found.0, Memᴰ.tail found.1, found.2))
      (Memᴰ.append_cases (f first) among)

-- the lowest values, `count` of them, have each value that is lifted to a number below `count`
values_have : (count : ℕ) (value : ℤ) → nat_abs value ≤ 20000 → lifted value < count → Memᴰ value (lowest_values count)
unfolding lowest_values
values_have zero value within below = absurd (omega arith)
values_have (suc count) value within below =
    ⊎_elim
    (λ before. Memᴰ.tail (values_have count value within before))
    (λ from. let same : lifted value ≡ count = omega arith in Memᴰ.head (sym (lowered_lifted value within) ∙ ap lowered same))
    (below_or_not (lifted value) count)

-- and where they are no more than 40,001, all are within ±20,000
values_within : (count : ℕ) → count ≤ 40001 → {value : ℤ} → Memᴰ value (lowest_values count) → nat_abs value ≤ 20000
unfolding lowest_values
values_within zero few among = absurd (Memᴰ.not-nil among)
values_within (suc count) few (Memᴰ.head same) = rw same (lowered_within count (omega arith))
values_within (suc count) few (Memᴰ.tail later) = values_within count (omega arith) later

-- a term at a node, before a list
abbrev starting : ℕ → ℤ → List Term → List Term
starting node value terms = record { node = node; value = value } ∷ terms

-- a valid list whose nodes are gone through is among the lists
valid_listed : (node count : ℕ) {last end : ℕ} (terms : List Term) → node ≤ suc last → end ≤ node + count → ValidFrom last end terms → Memᴰ terms (term_lists node count)
unfolding term_lists valid_from
valid_listed node zero [] from up_to_lem valid = Memᴰ.head refl
valid_listed node zero (term ∷ terms) from up_to_lem valid = absurd (omega (arith, first_above valid, first_below valid))
valid_listed node (suc count) {end = end} [] from up_to_lem valid =
    Memᴰ.append_left _ (valid_listed (suc node) count {last = node} {end = end} [] (omega arith) (omega arith) (record { passes = tt }))
valid_listed node (suc count) (term ∷ terms) from up_to_lem valid =
    let value : ℤ = term.value in
    let above = first_above valid in
    let within = first_within valid in
    ⊎_elim
    (λ later. Memᴰ.append_left _ (valid_listed (suc node) count (term ∷ terms) (omega arith) (omega arith) (valid_above valid node later)))
    (λ not-later.
    let same : term.node ≡ node = omega arith in
    Memᴰ.append_right (term_lists (suc node) count)
    (in_flat_map _ (lowest_values 40001) (values_have 40001 value within (omega (arith, lifted_within value within)))
    (Memᴰ.cast (ap (λ (at : ℕ). starting at value terms) same) (Memᴰ.map (starting node value) (valid_listed (suc node) count terms (omega arith) (omega arith) (rest_valid valid))))))
    (below_or_not node term.node)

-- and every list among them is valid
listed_valid : (node count : ℕ) {last end : ℕ} (terms : List Term) → last < node → node + count ≤ end → Memᴰ terms (term_lists node count) → ValidFrom last end terms
unfolding term_lists valid_from
listed_valid node zero {last} {end} terms from up_to_lem among = subst (ValidFrom last end) (sym (Memᴰ.eq_of_singleton among)) (record { passes = tt })
listed_valid node (suc count) {last} {end} terms from up_to_lem among =
    ⊎_elim
    (λ later. listed_valid (suc node) count terms (omega arith) (omega arith) later)
    (λ here.
    let first = of_flat_map _ (lowest_values 40001) here in
    let more = Memᴰ.of_map _ _ first.2 in
    subst (ValidFrom last end) more.2
    (valid_before (record { node = node; value = first.0 }) from (omega arith) (values_within 40001 (omega arith) first.1)
    (listed_valid (suc node) count more.0 (omega arith) (omega arith) more.1)))
    (Memᴰ.append_cases (term_lists (suc node) count) among)

-- so `all_synopses` has exactly the valid lists
pub synopses_exactly : (n : ℕ) → Exactly (all_synopses n) (Valid n)
synopses_exactly n = record {
  has = λ terms valid. valid_listed 1 (2 * padded n - 1) terms (omega arith) (omega arith) (record { passes = valid });
  only = λ terms among. (listed_valid 1 (2 * padded n - 1) {last = 0} {end = 2 * padded n} terms (omega arith) (omega (arith, pow_pos (height n))) among).passes;
}
