-- The fewest terms are reached: the walk from the root down, gathered into a list, keeps the bands with as many, and leads every other list that does.
use mathlib.Core.Path.{◌≡◌, refl, ap, sym, ◌∙◌}
use mathlib.Core.Bool.{Bool, true, false, cond}
use mathlib.Core.Option.{Option, none, some}
use mathlib.Core.List.{List}
use Prim.Native.Nat.{ℕ, zero, suc, ◌-◌, ◌*◌, ◌/◌, ◌^◌, ◌≤◌, ◌<◌}
use native.Mathlib.Omega.{arith}
use lib.Dec.{leb}
use lib.IntN.{ℤ}
use lib.ListN.{length}
use lib.Pow.{pow_pos, pow_mono}
use Rattle.histogram.specs.declared.Term.{Term}
use Rattle.histogram.specs.Tree.{height, padded, level_of}
use Rattle.histogram.specs.Terms.{Valid}
use Rattle.histogram.specs.Errors.{setpoint_of}
use Rattle.histogram.proofs.Powers.{level_rule, level_only}
use Rattle.fewest.specs.Node.{placed, Within, best_value, chosen}
use Rattle.fewest.specs.Tree.{binary, ancestor}
use Rattle.fewest.specs.Cost.{cost}
use Rattle.fewest.specs.Walk.{restored_from, Made}
use Rattle.fewest.specs.Terms.{lookup, Leads, Smallest}
use Rattle.fewest.specs.Row.{Inhabited}
use Rattle.fewest.proofs.Best.{best_within}
use Rattle.fewest.proofs.Binary.{level_from, level_below}
use Rattle.fewest.proofs.Fewest.{made_reaches_fewest}
use Rattle.fewest.proofs.Leading.{walk_leads}
use Rattle.claims.specs.Best.{InRange, KeepingSynopsis, one_band}
use Rattle.claims.specs.LeastBand.{CanKeep}
use Rattle.claims.specs.Inner.{lifted, accepts, term_node, term_value, fewest_terms, gathered, comes_in, walked}
use Rattle.claims.proofs.Lifted.{lifted_within}
use Rattle.claims.proofs.Range.{read_within}
use Rattle.claims.proofs.Gathered.{gathered_looks_up, gathered_valid}
use Rattle.claims.proofs.Theory.{near_accepted, valid_is_listed, keeps_in_theory, keeps_from_theory}

-- what is chosen at a node is at most 40,000
chosen_within : (cost_of : ℕ → ℕ) (above : ℕ) → Within 40000 (chosen 40000 cost_of above)
unfolding chosen
chosen_within cost_of above = split (leb (cost_of above) (cost_of (best_value 40000 cost_of)))
  where
    split : (test : Bool) → Within 40000 (cond test none (some (best_value 40000 cost_of)))
    split true = tt
    split false = best_within 40000 cost_of

-- a node so many levels below the root has that level
level_is : (levels node : ℕ) → ancestor binary levels node ≡ 1 → level_of node ≡ levels
level_is levels node under_root =
    let from = level_from levels node under_root in
    level_only (level_rule node (omega (arith, pow_pos levels))) (record { reached = from; next_not = level_below levels node under_root })

module _ (accepts : ℕ → ℕ → Bool) (height rest : ℕ) (term_at : ℕ → Option ℕ)
    (looks-up : (node : ℕ) → 1 ≤ node → node < 2 ^ suc height → term_at node ≡ walked (cost binary accepts 40000) height rest node) where
  -- what a value costs at a node with a height below it
  abbrev cost_of : ℕ → ℕ → ℕ → ℕ
  cost_of = cost binary accepts 40000

  -- the term at a node of the tree is the one that the walk leaves
  walked_at : (levels node : ℕ) → ancestor binary levels node ≡ 1 → levels ≤ height → term_at node ≡ chosen 40000 (cost_of (height - levels) node) (comes_in cost_of height rest levels node)
  walked_at levels node under_root in_tree =
      let from = level_from levels node under_root in
      let below = level_below levels node under_root in
      looks-up node (omega (arith, pow_pos levels)) (omega (arith, pow_mono {i = suc levels} {j = suc height} (omega arith)))
      ∙ ap (λ (level : ℕ). chosen 40000 (cost_of (height - level) node) (comes_in cost_of height rest level node)) (level_is levels node under_root)

  -- what comes in at a node is what the terms above it restore
  comes_in_restored : (levels node : ℕ) → ancestor binary levels node ≡ 1 → levels ≤ suc height → comes_in cost_of height rest levels node ≡ restored_from binary term_at rest levels (node / 2)
  unfolding comes_in restored_from binary ancestor
  comes_in_restored zero node under_root in_tree = refl
  comes_in_restored (suc levels) node under_root in_tree =
      rw (sym (walked_at levels (node / 2) under_root (omega arith)))
      (ap (λ (value : ℕ). placed (term_at (node / 2)) value) (comes_in_restored levels (node / 2) under_root (omega arith)))

  -- so node by node it is what the theory's walk makes
  walk_is_made : Made binary accepts 40000 height rest term_at
  unfolding binary
  walk_is_made = record {
    each_node = λ levels node under_root in_tree.
        walked_at levels node under_root in_tree
        ∙ ap (λ (value : ℕ). chosen 40000 (cost_of (height - levels) node) value) (comes_in_restored levels node under_root (omega arith));
  }

module _ {profile : List ℤ} {rest : ℤ} (in_range : InRange profile rest) (bands : List ℕ) where
  -- each leaf accepts a value: its slot's setpoint, or any where it is filler
  some_accepted : (leaf : ℕ) → Inhabited 40000 (accepts profile bands leaf)
  some_accepted leaf =
      let slot : ℕ = leaf - padded (length profile) in
      let setpoint : ℕ = lifted (setpoint_of profile slot) in
      record { value = setpoint; within = lifted_within (setpoint_of profile slot) (read_within in_range slot); inside = near_accepted profile bands leaf setpoint (omega arith) }

  -- the terms that the walk leaves
  abbrev pub walked_terms : List Term
  walked_terms = gathered (walked (cost binary (accepts profile bands) 40000) (height (length profile)) (lifted rest)) 1 (2 * padded (length profile) - 1)

  -- a valid list
  pub walked_valid : Valid (length profile) walked_terms
  walked_valid =
      (gathered_valid _ (λ node. chosen_within _ _) 0 1 (2 * padded (length profile) - 1) (2 * padded (length profile)) (omega arith) (omega (arith, pow_pos (height (length profile))))).passes

  -- made node by node as the theory's walk
  walked_made : Made binary (accepts profile bands) 40000 (height (length profile)) (lifted rest) (lookup term_node term_value walked_terms)
  walked_made =
      walk_is_made (accepts profile bands) (height (length profile)) (lifted rest) (lookup term_node term_value walked_terms)
      (λ node from below. gathered_looks_up _ 1 (2 * padded (length profile) - 1) node from (omega (arith, pow_pos (height (length profile)))))

  -- that is one of the smallest, by the theory
  walked_smallest : Smallest term_node term_value binary (accepts profile bands) 40000 (height (length profile)) (lifted rest) walked_terms
  walked_smallest =
      made_reaches_fewest term_node term_value binary (accepts profile bands) 40000 (height (length profile)) (lifted rest) some_accepted walked_terms
      (valid_is_listed (length profile) walked_terms walked_valid) walked_made

  -- so it keeps the bands
  pub walked_keeps : KeepingSynopsis profile rest bands walked_terms
  walked_keeps = record { valid = walked_valid; keeps = keeps_from_theory in_range walked_terms walked_valid bands walked_smallest.keeps }

  -- with the fewest terms
  pub walked_as_few : length walked_terms ≡ fewest_terms profile rest bands
  walked_as_few = walked_smallest.length_is

  -- and it leads every other that keeps the bands with as few
  pub walked_leads : (other : List Term) → KeepingSynopsis profile rest bands other → length other ≡ fewest_terms profile rest bands → Leads term_node term_value walked_terms other
  walked_leads other keeping as_few =
      walk_leads term_node term_value binary (accepts profile bands) 40000 (height (length profile)) (lifted rest) walked_terms other
      (valid_is_listed (length profile) walked_terms walked_valid) walked_made walked_smallest (valid_is_listed (length profile) other keeping.valid)
      (record { keeps = keeps_in_theory in_range other keeping.valid bands keeping.keeps; length_is = as_few })

-- a band that needs no more terms than a budget can be kept within it
pub budget_suffices : {profile : List ℤ} {rest : ℤ} (in_range : InRange profile rest) (band : ℕ) {budget : ℕ} → fewest_terms profile rest (one_band profile band) ≤ budget
    → CanKeep profile rest budget band
budget_suffices {profile} in_range band enough = record {
  terms = walked_terms in_range (one_band profile band);
  synopsis = walked_keeps in_range (one_band profile band);
  within_budget = omega (arith, walked_as_few in_range (one_band profile band));
}
