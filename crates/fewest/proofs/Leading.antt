-- Of the smallest lists that keep, the walk's comes first, document 02, F-5: term by term, the lower node first, then the lower value.
-- Where two lists have the same terms at all nodes of lower number, the same value comes in at a node. There every smallest list pays the cheapest, and so
-- has no term where the walk has none, and no lower value where both have a term. So the first difference decides for the walk: `walk_leads`.
use mathlib.Core.Path.{◌≡◌, refl, sym, ap, ◌∙◌}
use mathlib.Core.Logic.{◌≢◌, ◌⊎◌, inl, inr}
use mathlib.Core.Bool.{Bool, true, false, cond}
use mathlib.Core.Option.{Option, none, some}
use mathlib.Core.List.{List, [], ◌∷◌}
use Prim.Native.Nat.{ℕ, zero, suc, ◌-◌, ◌≤◌, ◌<◌}
use native.Mathlib.Decide.{ℕ_discrete, dec_lt}
use native.Mathlib.Omega.{arith}
use lib.Dec.{leb}
use lib.ListN.{length}
use borrow.Author.Tests.{eq-eqb, ne_eqb}
use Rattle.fewest.specs.Node.{placed, Within, best_value, cheapest, chosen}
use Rattle.fewest.specs.Tree.{Shape, InTree}
use Rattle.fewest.specs.Cost.{cost}
use Rattle.fewest.specs.Walk.{restored_from, Made}
use Rattle.fewest.specs.Terms.{lookup, Listed, Leads, Smallest}
use Rattle.fewest.proofs.Best.{best_costs_least, best_is_first, best_chosen}
use Rattle.fewest.proofs.Reached.{Reaches}
use Rattle.fewest.proofs.Path.{keeps_fits}
use Rattle.fewest.proofs.Occurrence.{node_under_root}
use Rattle.fewest.proofs.Length.{looked_up_within, none_before, length_is_sum}
use Rattle.fewest.proofs.Tight.{PaysCheapest, each_pays}

-- what one list has at a node comes before what another has there, or is the same: a term before none, the lower value first
abbrev Ahead : Option ℕ → Option ℕ → Type 0
Ahead none none = Unit {0}
Ahead none (some other) = ⊥
Ahead (some value) none = Unit {0}
Ahead (some value) (some other) = value ≤ other

-- what the walk chooses comes before all that pays the cheapest, where the same value comes in
chosen_ahead : (top : ℕ) (cost_of : ℕ → ℕ) (above : ℕ) (term : Option ℕ) → Within top term → PaysCheapest top cost_of above term → Ahead (chosen top cost_of above) term
unfolding chosen cheapest
chosen_ahead top cost_of above none within pays = split (leb (cost_of above) (cost_of (best_value top cost_of)))
  where
    split : (test : Bool) → Ahead (cond test none (some (best_value top cost_of))) none
    split true = tt
    split false = tt
chosen_ahead top cost_of above (some value) within pays =
    let least = best_costs_least top cost_of value within in
    rw (best_chosen top cost_of above (omega arith)) (best_is_first top cost_of value within (omega arith))

-- what is restored at a node depends on the terms at nodes up to its number
module _ (shape : Shape) (term_at otherAt : ℕ → Option ℕ) (rest i : ℕ) (same-lower : (n : ℕ) → n < i → term_at n ≡ otherAt n) where
  still_lower : (n : ℕ) → n < i → shape.par n < i
  still_lower zero below = omega (arith, shape.par_of_none)
  still_lower (suc n) below = omega (arith, shape.par_lower (suc n) (omega arith))

  restored_same : (count n : ℕ) → n < i → restored_from shape term_at rest count n ≡ restored_from shape otherAt rest count n
  unfolding restored_from
  restored_same zero n below = refl
  restored_same (suc count) n below = rw (same-lower n below) (ap (placed (otherAt n)) (restored_same count (shape.par n) (still_lower n below)))

-- so at the first node where a smallest list differs from the walk's, the walk's is ahead
walk_ahead : (shape : Shape) (accepts : ℕ → ℕ → Bool) (top height rest : ℕ) (term_at otherAt : ℕ → Option ℕ) → Made shape accepts top height rest term_at
    → ((n : ℕ) → Within top (otherAt n)) → Reaches shape accepts top otherAt height 1 rest
    → (i : ℕ) → InTree shape height i → ((n : ℕ) → n < i → term_at n ≡ otherAt n) → Ahead (term_at i) (otherAt i)
walk_ahead shape accepts top height rest term_at otherAt made within reaches i in_tree same-lower =
    let levels : ℕ = in_tree.levels in
    let above_lower : shape.par i < i = shape.par_lower i (node_under_root shape levels i in_tree.under_root) in
    rw (made.each_node levels i in_tree.under_root in_tree.in_height, restored_same shape term_at otherAt rest i same-lower levels (shape.par i) above_lower)
    (chosen_ahead top (cost shape accepts top (height - levels) i) (restored_from shape otherAt rest levels (shape.par i)) (otherAt i) (within i)
    (each_pays shape accepts top otherAt within height rest reaches levels (height - levels) i (omega (arith, in_tree.in_height)) in_tree.under_root))

module _ {Term : Type 0} (node value : Term → ℕ) where
  -- the first term is found at its node
  found_first : (term : Term) (terms : List Term) (i : ℕ) → node term ≡ i → lookup node value (term ∷ terms) i ≡ some (value term)
  unfolding lookup
  found_first term terms i here = rw (eq-eqb (node term) i here)

  -- elsewhere it is passed over
  passed_over : (term : Term) (terms : List Term) (i : ℕ) → node term ≢ i → lookup node value (term ∷ terms) i ≡ lookup node value terms i
  unfolding lookup
  passed_over term terms i elsewhere = rw (ne_eqb (node term) i elsewhere)

  module _ (shape : Shape) (height top : ℕ) where
    -- a list as the theory means it
    abbrev ListedFrom : ℕ → List Term → Type 0
    ListedFrom = Listed node value shape height top

    -- at nodes of lower number than its first term's a list has none
    none_lower : (last : ℕ) (term : Term) (terms : List Term) → ListedFrom last (term ∷ terms) → (i : ℕ) → i < node term → lookup node value (term ∷ terms) i ≡ none
    unfolding Listed
    none_lower last term terms listed i below =
        passed_over term terms i (λ same. omega arith) ∙ none_before node value shape height top (node term) terms i listed.3 (omega arith)

    -- of two lists, the first is ahead at every node of the tree where both have the same terms at all nodes of lower number
    abbrev AheadAtFirst : List Term → List Term → Type 0
    AheadAtFirst terms others = (i : ℕ) → InTree shape height i → ((n : ℕ) → n < i → lookup node value terms n ≡ lookup node value others n)
        → Ahead (lookup node value terms i) (lookup node value others i)

    -- two lists with the same first term: what is said of them is said of what follows it
    tails_ahead : (term other : Term) (terms others : List Term) → node term ≡ node other → value term ≡ value other
        → ListedFrom (node term) terms → ListedFrom (node other) others → AheadAtFirst (term ∷ terms) (other ∷ others) → AheadAtFirst terms others
    tails_ahead term other terms others same_node same-value listed others-listed ahead i in_tree same-lower = split (ℕ_discrete (node term) i)
      where
        whole_same : (n : ℕ) → n < i → lookup node value (term ∷ terms) n ≡ lookup node value (other ∷ others) n
        whole_same n below = place (ℕ_discrete (node term) n)
          where
            place : Dec (node term ≡ n) → lookup node value (term ∷ terms) n ≡ lookup node value (other ∷ others) n
            place (yes here) = found_first term terms n here ∙ ap some same-value ∙ sym (found_first other others n (sym same_node ∙ here))
            place (no elsewhere) = passed_over term terms n elsewhere ∙ same-lower n below ∙ sym (passed_over other others n (λ here. elsewhere (same_node ∙ here)))

        split : Dec (node term ≡ i) → Ahead (lookup node value terms i) (lookup node value others i)
        split (yes here) =
            rw (
              none_before node value shape height top (node term) terms i listed (omega arith),
              none_before node value shape height top (node other) others i others-listed (omega arith),
            )
            tt
        split (no elsewhere) = rw (passed_over term terms i elsewhere, passed_over other others i (λ here. elsewhere (same_node ∙ here))) at (ahead i in_tree whole_same)

    -- a list that is ahead at the first difference from another of as many terms leads it
    ahead_leads : (last others-last : ℕ) (terms others : List Term) → ListedFrom last terms → ListedFrom others-last others → length terms ≡ length others
        → AheadAtFirst terms others → Leads node value terms others
    unfolding Leads Listed
    ahead_leads last others-last [] others listed others-listed as_many ahead = tt
    ahead_leads last others-last (term ∷ terms) [] listed others-listed as_many ahead = absurd (omega (arith, as_many))
    ahead_leads last others-last (term ∷ terms) (other ∷ others) listed others-listed as_many ahead =
        compare_nodes (dec_lt (node term) (node other)) (dec_lt (node other) (node term))
        (λ same_node same-value. ahead_leads (node term) (node other) terms others listed.3 others-listed.3 (omega (arith, as_many))
        (tails_ahead term other terms others same_node same-value listed.3 others-listed.3 ahead))
      where
        -- at nodes of lower number than both first ones neither has a term
        none_there : (i : ℕ) → i ≤ node term → i ≤ node other → (n : ℕ) → n < i → lookup node value (term ∷ terms) n ≡ lookup node value (other ∷ others) n
        none_there i up_to_lem up-to-other n below =
            none_lower last term terms listed n (omega arith) ∙ sym (none_lower others-last other others others-listed n (omega arith))

        compare_values : node term ≡ node other → Dec (value term < value other) → (value term ≡ value other → Leads node value terms others)
            → (value term < value other) ⊎ ((value term ≡ value other) × Leads node value terms others)
        compare_values same_node (yes lower) further = inl lower
        compare_values same_node (no not_lower) further =
            let no_higher : value term ≤ value other =
            rw (found_first term terms (node term) refl, found_first other others (node term) (sym same_node)) at
            (ahead (node term) listed.1 (none_there (node term) (omega arith) (omega arith))) in
            inr (omega arith, further (omega arith))

        compare_nodes : Dec (node term < node other) → Dec (node other < node term) → (node term ≡ node other → value term ≡ value other → Leads node value terms others)
            → (node term < node other) ⊎ ((node term ≡ node other) × ((value term < value other) ⊎ ((value term ≡ value other) × Leads node value terms others)))
        compare_nodes (yes lower) later further = inl lower
        compare_nodes (no not_lower) (yes higher) further =
            absurd (rw (none_lower last term terms listed (node other) higher, found_first other others (node other) refl) at
            (ahead (node other) others-listed.1 (none_there (node other) (omega arith) (omega arith))))
        compare_nodes (no not_lower) (no not-higher) further =
            let same_node : node term ≡ node other = omega arith in
            inr (same_node, compare_values same_node (dec_lt (value term) (value other)) (further same_node))

  -- the walk's list leads every smallest one
  pub walk_leads : (shape : Shape) (accepts : ℕ → ℕ → Bool) (top height rest : ℕ) (terms others : List Term)
      → Listed node value shape height top 0 terms → Made shape accepts top height rest (lookup node value terms) → Smallest node value shape accepts top height rest terms
      → Listed node value shape height top 0 others → Smallest node value shape accepts top height rest others → Leads node value terms others
  walk_leads shape accepts top height rest terms others listed made smallest others-listed others-smallest =
      let others-within = looked_up_within node value shape height top 0 others others-listed in
      let reaches : Reaches shape accepts top (lookup node value others) height 1 rest = record {
        fits = keeps_fits shape (lookup node value others) accepts height rest others-smallest.keeps;
        terms_are = length_is_sum node value shape height top 0 others others-listed ∙ others-smallest.length_is;
      } in
      ahead_leads shape height top 0 0 terms others listed others-listed (smallest.length_is ∙ sym others-smallest.length_is)
      (walk_ahead shape accepts top height rest (lookup node value terms) (lookup node value others) made others-within reaches)
