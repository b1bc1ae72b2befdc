-- One node of the pass that hands values down. The terms from `next` on are valid above the node before this one,
-- so either the first of them is this node's, or it has no term; either way what is left is valid above this node.
use mathlib.Core.Path.{◌≡◌, refl, sym, ap, ◌∙◌, subst}
use mathlib.Core.Bool.{Bool, true, false, cond}
use mathlib.Core.Logic.{⊎_elim}
use mathlib.Core.List.{List, ◌∷◌}
use Prim.Native.Nat.{ℕ, suc, ◌+◌, ◌/◌, ◌<◌, ◌≤◌}
use native.Mathlib.Numerals.{add-one}
use native.Mathlib.Omega.{arith}
use lib.Dec.{eqb}
use lib.IntN.{ℤ, pos}
use lib.ListN.{length, get_or, set, drop_of_length-le, length-set}
use lib.Seq.{get_or-set_same, get_or-set_other}
use borrow.Author.Tests.{lt-ltb, le-ltb, eq-eqb, ne_eqb, eqb-true, eqb-false}
use Rattle.std.proofs.Common.{true≢false, unwrap_or, Option, Some, None}
use Rattle.std.specs.Option.{is_some}
use Rattle.histogram.specs.declared.Term.{Term}
use Rattle.histogram.specs.Terms.{paired, valid_from, term_or}
use Rattle.histogram.specs.Restored.{restored_at}
use Rattle.histogram.specs.Inner.{is_next, fed, Handing, HandedDown}
use Rattle.histogram.proofs.Above.{at_no_node, from_above}
use Rattle.histogram.proofs.Ascent.{ValidFrom, first_above, rest_valid, valid_above, no_term}
use Rattle.histogram.proofs.Paired.{onwards, term_at, term_there}
use Rattle.std.proofs.lemmas.Bool.{cases_lt}

-- what a node does with the terms from `next` on, where it takes the first of them or does not
record Passed (nodes : List ℕ) (values : List ℤ) (end node next : ℕ) (taken : Bool) : Type 0 where
  value : (above : ℤ) → term_or above (onwards nodes values next) node ≡ cond taken (get_or values next (pos 0)) above
  valid : ValidFrom node end (onwards nodes values (cond taken (next + 1) next))
  later : (otherwise : ℤ) (after : ℕ) → node < after
      → term_or otherwise (onwards nodes values next) after ≡ term_or otherwise (onwards nodes values (cond taken (next + 1) next)) after

module _ (nodes : List ℕ) (values : List ℤ) (next : ℕ) {end last node : ℕ} (same : length nodes ≡ length values) (node_is : node ≡ suc last) (valid : ValidFrom last end (onwards nodes values next)) where
  first_is : next < length nodes → ValidFrom last end (term_at nodes values next ∷ onwards nodes values (suc next))
  first_is there = subst (λ (terms : List Term). ValidFrom last end terms) (term_there nodes values next same there) valid

  takes : next < length nodes → get_or nodes next 0 ≡ node → Passed nodes values end node next true
  unfolding term_or
  takes there is-node = record {
    value = λ above. rw (term_there nodes values next same there, eq-eqb (get_or nodes next 0) node is-node);
    valid = rw (add-one next, sym is-node) (rest_valid (first_is there));
    later = λ otherwise after beyond. rw (term_there nodes values next same there, ne_eqb (get_or nodes next 0) after (λ same_node. omega arith), add-one next);
  }

  waits : next < length nodes → (get_or nodes next 0 ≡ node → ⊥) → Passed nodes values end node next false
  waits there other =
      let above = first_above (first_is there) in
      let higher : ValidFrom node end (onwards nodes values next) = rw (term_there nodes values next same there) (valid_above (first_is there) node (omega (arith, other))) in
      record { value = λ above. no_term (onwards nodes values next) higher above node (omega arith); valid = higher; later = λ otherwise after beyond. refl }

  ends : length nodes ≤ next → Passed nodes values end node next false
  unfolding paired term_or valid_from
  ends past = record {
    value = λ above. rw (drop_of_length-le nodes past);
    valid = rw (drop_of_length-le nodes past) (record { passes = tt });
    later = λ otherwise after beyond. refl;
  }

  passed : Passed nodes values end node next (is_next nodes next node)
  passed =
      ⊎_elim
      (λ there. rw (lt-ltb next (length nodes) there) (split there (eqb (get_or nodes next 0) node) refl))
      (λ past. rw (le-ltb next (length nodes) past) (ends past))
      (cases_lt next (length nodes))
    where
      split : next < length nodes → (test : Bool) → eqb (get_or nodes next 0) node ≡ test → Passed nodes values end node next test
      split there true answer = takes there (eqb-true _ _ answer)
      split there false answer = waits there (eqb-false _ _ answer)

-- the pass before a node: every place below it holds what is restored there, and the terms before `next` say nothing of it or of later nodes
pub record Handed (rest : ℤ) (nodes : List ℕ) (values : List ℤ) (end : ℕ) (before restored : List ℤ) (next node : ℕ) : Type 0 where
  pub last : ℕ
  pub node_is : node ≡ suc last
  pub to_end : node ≤ end
  pub room : end ≤ length restored
  pub each_before : (k : ℕ) → k < node → get_or restored k (pos 0) ≡ restored_at rest (paired nodes values) k
  pub each_past : (k : ℕ) → node ≤ k → get_or restored k (pos 0) ≡ get_or before k (pos 0)
  pub later : (otherwise : ℤ) (after : ℕ) → node ≤ after → term_or otherwise (paired nodes values) after ≡ term_or otherwise (onwards nodes values next) after
  pub valid : ValidFrom last end (onwards nodes values next)

pub handed_rest : (rest : ℤ) (nodes : List ℕ) (values : List ℤ) (end : ℕ) (before : List ℤ) → Handing end nodes values before
    → Handed rest nodes values end (set before 0 rest) (set before 0 rest) 0 1
handed_rest rest nodes values end before handing = record {
  last = 0;
  node_is = refl;
  to_end = handing.some_node;
  room = simp length-set handing.room;
  each_before = λ k below.
      let none : k ≡ 0 = omega arith in
      rw none (get_or-set_same before 0 rest (pos 0) (omega (arith, handing.some_node, handing.room)) ∙ sym (at_no_node rest (paired nodes values)));
  each_past = λ k from. refl;
  later = λ otherwise after from. refl;
  valid = record { passes = handing.valid };
}

module _ {rest : ℤ} {nodes : List ℕ} {values : List ℤ} {end : ℕ} {before restored : List ℤ} {next node : ℕ} (handed : Handed rest nodes values end before restored next node) where
  -- the value that a node gets
  abbrev value_of : Bool → ℤ
  value_of taken = cond taken (get_or values next (pos 0)) (get_or restored (node / 2) (pos 0))

  own_value : {taken : Bool} → Passed nodes values end node next taken → value_of taken ≡ restored_at rest (paired nodes values) node
  own_value by_node =
      let node_is = handed.node_is in
      sym (by_node.value (get_or restored (node / 2) (pos 0)))
      ∙ sym (handed.later (get_or restored (node / 2) (pos 0)) node (omega arith))
      ∙ ap (λ (above : ℤ). term_or above (paired nodes values) node) (handed.each_before (node / 2) (omega arith))
      ∙ sym (from_above rest (paired nodes values) node (omega arith))

  handed_on : node < end → {taken : Bool} → Passed nodes values end node next taken
      → Handed rest nodes values end before (set restored node (value_of taken)) (cond taken (next + 1) next) (node + 1)
  handed_on inside {taken} by_node =
      let value = value_of taken in
      let room = handed.room in
      record {
        last = node;
        node_is = add-one node;
        to_end = omega arith;
        room = simp length-set (omega arith);
        each_before = λ k below.
            ⊎_elim
            (λ before. get_or-set_other restored node k value (pos 0) (λ same_place. omega arith) ∙ handed.each_before k before)
            (λ from. let here : k ≡ node = omega arith in rw here (get_or-set_same restored node value (pos 0) (omega arith) ∙ own_value by_node))
            (cases_lt k node);
        each_past = λ k from. get_or-set_other restored node k value (pos 0) (λ same_place. omega arith) ∙ handed.each_past k (omega arith);
        later = λ otherwise after from. handed.later otherwise after (omega arith) ∙ by_node.later otherwise after (omega arith);
        valid = by_node.valid;
      }

  -- the pass after a node, where the next term is the node's, and where it is not
  pub handed_own : length nodes ≡ length values → node < end → {value : ℤ} → Some value ≡ fed nodes values next node
      → Handed rest nodes values end before (set restored node value) (next + 1) (node + 1)
  handed_own same inside {value} is_fed = split (is_next nodes next node) (passed nodes values next same handed.node_is handed.valid) is_fed
    where
      split : (taken : Bool) → Passed nodes values end node next taken → Some value ≡ cond taken (Some (get_or values next (pos 0))) None
          → Handed rest nodes values end before (set restored node value) (next + 1) (node + 1)
      split true by_node is_fed = rw (ap (λ (own : Option ℤ). unwrap_or own (pos 0)) is_fed) (handed_on inside by_node)
      split false by_node is_fed = absurd (true≢false (ap (λ (own : Option ℤ). is_some own) is_fed))

  pub handed_above : length nodes ≡ length values → node < end → None ≡ fed nodes values next node
      → Handed rest nodes values end before (set restored node (get_or restored (node / 2) (pos 0))) next (node + 1)
  handed_above same inside is_fed = split (is_next nodes next node) (passed nodes values next same handed.node_is handed.valid) is_fed
    where
      split : (taken : Bool) → Passed nodes values end node next taken → None ≡ cond taken (Some (get_or values next (pos 0))) None
          → Handed rest nodes values end before (set restored node (get_or restored (node / 2) (pos 0))) next (node + 1)
      split true by_node is_fed = absurd (true≢false (sym (ap (λ (own : Option ℤ). is_some own) is_fed)))
      split false by_node is_fed = handed_on inside by_node

-- the pass at its end; its first step was to put the rest value at place 0
pub handed_down : {rest : ℤ} {nodes : List ℕ} {values : List ℤ} {end : ℕ} {before restored : List ℤ} {next node : ℕ} → Handed rest nodes values end (set before 0 rest) restored next node
    → end ≤ node → HandedDown rest (paired nodes values) end before restored
handed_down {rest} {before = before} handed past =
    let node_is = handed.node_is in
    let to_end = handed.to_end in
    record {
      at_node = λ k below. handed.each_before k (omega arith);
      past = λ k from. handed.each_past k (omega arith) ∙ get_or-set_other before 0 k rest (pos 0) (λ same_place. omega arith);
    }
