-- A synopsis of a profile and the theory of fewest terms: the same lists are meant, the same setpoints restored, the same bands kept.
use mathlib.Core.Path.{◌≡◌, refl, ap, ◌∙◌}
use mathlib.Core.Bool.{Bool, true, false, cond, or-true}
use mathlib.Core.Logic.{⊎_elim}
use mathlib.Core.List.{List, [], ◌∷◌}
use mathlib.Core.Option.{some}
use Prim.Native.Nat.{ℕ, zero, suc, ◌+◌, ◌-◌, ◌*◌, ◌/◌, ◌^◌, ◌≤◌, ◌<◌}
use native.Mathlib.Omega.{arith}
use lib.Dec.{T, eqb, leb→le}
use lib.IntN.{ℤ}
use lib.Pow.{pow_pos}
use lib.ListN.{length}
use borrow.Author.Tests.{le-leb, lt-leb}
use Rattle.histogram.specs.declared.Term.{Term}
use Rattle.histogram.specs.Tree.{height, padded}
use Rattle.histogram.specs.Terms.{Valid, term_or}
use Rattle.histogram.specs.Restored.{restored, path_nodes}
use Rattle.histogram.specs.Errors.{slots_of, setpoint_of, slot_error, slot_band, Keeps}
use Rattle.histogram.proofs.Ascent.{ValidFrom, first_above, first_below, first_within, rest_valid}
use Rattle.histogram.proofs.Above.{path_of_node}
use Rattle.histogram.proofs.Order.{below_or_not}
use Rattle.histogram.proofs.Within.{restored_within}
use Rattle.histogram.proofs.Powers.{level_rule, level_only, height_reaches}
use Rattle.fewest.specs.Node.{placed}
use Rattle.fewest.specs.Tree.{binary, ancestor}
use Rattle.fewest.specs.Walk.{restored_from}
use Rattle.fewest.specs.Walk as Theory
use Rattle.fewest.specs.Terms.{lookup, Listed}
use Rattle.fewest.proofs.Binary.{number_in_tree, number_at_level, level_from, level_below}
use Rattle.claims.specs.Best.{InRange}
use Rattle.claims.specs.Inner.{lifted, distance, accepts, term_node, term_value}
use Rattle.claims.proofs.Lifted.{lifted_within, distance_lifted}
use Rattle.claims.proofs.Range.{read_within}

-- the value of the term at a node, lifted
lifted_term : (otherwise : ℤ) (terms : List Term) (node : ℕ) → lifted (term_or otherwise terms node) ≡ placed (lookup term_node term_value terms node) (lifted otherwise)
unfolding term_or lookup
lifted_term otherwise [] node = refl
lifted_term otherwise (term ∷ terms) node = split (eqb term.node node) (lifted_term otherwise terms node)
  where
    split : (test : Bool) → lifted (term_or otherwise terms node) ≡ placed (lookup term_node term_value terms node) (lifted otherwise)
        → lifted (cond test term.value (term_or otherwise terms node)) ≡ placed (cond test (some (lifted term.value)) (lookup term_node term_value terms node)) (lifted otherwise)
    split true later = refl
    split false later = later

-- the value restored from a node up, lifted
lifted_restored : (rest : ℤ) (terms : List Term) (count node : ℕ)
    → lifted (restored rest terms count node) ≡ restored_from binary (lookup term_node term_value terms) (lifted rest) count node
unfolding restored restored_from binary
lifted_restored rest terms zero node = refl
lifted_restored rest terms (suc count) node =
    lifted_term (restored rest terms count (node / 2)) terms node
    ∙ ap (λ (above : ℕ). placed (lookup term_node term_value terms node) above) (lifted_restored rest terms count (node / 2))

-- a valid list is one that the theory means
listed_from : (height last end : ℕ) → end ≤ 2 ^ suc height → (terms : List Term) → ValidFrom last end terms → Listed term_node term_value binary height 40000 last terms
unfolding Listed
listed_from height last end in_tree [] valid = tt
listed_from height last end in_tree (term ∷ terms) valid = (
  first_above valid,
  number_in_tree height term.node (omega (arith, first_above valid)) (omega (arith, first_below valid)),
  lifted_within term.value (first_within valid),
  listed_from height term.node end in_tree terms (rest_valid valid),
)

pub valid_is_listed : (n : ℕ) (terms : List Term) → Valid n terms → Listed term_node term_value binary (height n) 40000 0 terms
valid_is_listed n terms valid = listed_from (height n) 0 (2 * 2 ^ height n) (omega arith) terms (record { passes = valid })

-- a leaf of the tree over n slots has its height as its level
leaf_level : (levels node : ℕ) → 2 ^ levels ≤ node → node < 2 ^ suc levels → path_nodes node ≡ suc levels
leaf_level levels node from below =
    let some_node : 1 ≤ node = omega (arith, pow_pos levels) in
    path_of_node node some_node ∙ ap suc (level_only (level_rule node some_node) (record { reached = from; next_not = below }))

-- filler accepts every value, and any other slot just what is within its band
module _ (profile : List ℤ) (bands : List ℕ) (leaf value : ℕ) where
  abbrev slot_at : ℕ
  slot_at = leaf - padded (length profile)

  abbrev away : ℕ
  away = distance (lifted (setpoint_of profile slot_at)) value

  filler_accepts : slots_of profile ≤ slot_at → T (accepts profile bands leaf value)
  filler_accepts past = rw (le-leb (slots_of profile) slot_at past) tt

  pub near_accepted : away ≤ slot_band bands slot_at → T (accepts profile bands leaf value)
  near_accepted near = rw (le-leb away (slot_band bands slot_at) near, or-true) tt

  accepted_near : slot_at < slots_of profile → T (accepts profile bands leaf value) → away ≤ slot_band bands slot_at
  accepted_near counts accepted = leb→le away (slot_band bands slot_at) (rw (lt-leb (slots_of profile) slot_at counts) at accepted)

-- with wider bands a leaf accepts no less
pub wider_accepts : (profile : List ℤ) (narrow wide : List ℕ) → ((slot : ℕ) → slot < slots_of profile → slot_band narrow slot ≤ slot_band wide slot)
    → (leaf value : ℕ) → T (accepts profile narrow leaf value) → T (accepts profile wide leaf value)
wider_accepts profile narrow wide wider leaf value accepted =
    ⊎_elim
    (λ counts. near_accepted profile wide leaf value (omega (arith, accepted_near profile narrow leaf value counts accepted, wider (leaf - padded (length profile)) counts)))
    (λ past. filler_accepts profile wide leaf value past)
    (below_or_not (leaf - padded (length profile)) (slots_of profile))

module _ {profile : List ℤ} {rest : ℤ} (in_range : InRange profile rest) (terms : List Term) (valid : Valid (length profile) terms) where
  -- the error of a slot is the distance at its leaf
  error_at_leaf : (slot : ℕ) → slot < padded (length profile)
      → slot_error profile rest terms slot
      ≡ distance (lifted (setpoint_of profile slot)) (restored_from binary (lookup term_node term_value terms) (lifted rest) (suc (height (length profile))) (padded (length profile) + slot))
  error_at_leaf slot in_tree =
      let leaf : ℕ = padded (length profile) + slot in
      let path : path_nodes leaf ≡ suc (height (length profile)) = leaf_level (height (length profile)) leaf (omega arith) (omega arith) in
      distance_lifted (setpoint_of profile slot) (restored rest terms (path_nodes leaf) leaf) (read_within in_range slot)
      (restored_within rest terms (record { passes = valid }) in_range.rest_within (path_nodes leaf) leaf)
      ∙ ap (λ (value : ℕ). distance (lifted (setpoint_of profile slot)) value)
      (lifted_restored rest terms (path_nodes leaf) leaf ∙ ap (λ (count : ℕ). restored_from binary (lookup term_node term_value terms) (lifted rest) count leaf) path)

  -- what keeps its bands keeps them in the theory
  pub keeps_in_theory : (bands : List ℕ) → Keeps profile rest terms bands
      → Theory.Keeps binary (accepts profile bands) (height (length profile)) (lifted rest) (lookup term_node term_value terms)
  keeps_in_theory bands keeps = record { each_leaf = at_leaf }
    where
      at_leaf : (leaf : ℕ) → ancestor binary (height (length profile)) leaf ≡ 1
          → T (accepts profile bands leaf (restored_from binary (lookup term_node term_value terms) (lifted rest) (suc (height (length profile))) leaf))
      at_leaf leaf under_root =
          let slot : ℕ = leaf - padded (length profile) in
          let from : padded (length profile) ≤ leaf = level_from (height (length profile)) leaf under_root in
          let in_tree : slot < padded (length profile) = omega (arith, level_below (height (length profile)) leaf under_root) in
          let same : padded (length profile) + slot ≡ leaf = omega arith in
          ⊎_elim
          (λ counts. near_accepted profile bands leaf _ (rw (error_at_leaf slot in_tree, same) at (keeps.every_slot slot counts)))
          (λ past. filler_accepts profile bands leaf _ past)
          (below_or_not slot (slots_of profile))

  -- and what keeps them in the theory keeps them
  pub keeps_from_theory : (bands : List ℕ) → Theory.Keeps binary (accepts profile bands) (height (length profile)) (lifted rest) (lookup term_node term_value terms)
      → Keeps profile rest terms bands
  keeps_from_theory bands keeps = record { every_slot = at_slot }
    where
      at_slot : (slot : ℕ) → slot < slots_of profile → slot_error profile rest terms slot ≤ slot_band bands slot
      at_slot slot counts =
          let in_tree : slot < padded (length profile) = omega (arith, height_reaches (length profile)) in
          let leaf : ℕ = padded (length profile) + slot in
          let same : leaf - padded (length profile) ≡ slot = omega arith in
          let accepted = keeps.each_leaf leaf (number_at_level (height (length profile)) leaf (omega arith) (omega arith)) in
          rw (error_at_leaf slot in_tree) (rw same at (accepted_near profile bands leaf _ (omega arith) accepted))
