-- The terms gathered from a function on nodes: the list is valid and looks up as the function.
use mathlib.Core.Path.{◌≡◌, refl, ap}
use mathlib.Core.Option.{Option, none, some}
use Prim.Native.Nat.{ℕ, zero, suc, ◌+◌, ◌≤◌, ◌<◌}
use native.Mathlib.Decide.{ℕ_discrete}
use native.Mathlib.Omega.{arith}
use borrow.Author.Tests.{eq-eqb, ne_eqb}
use Rattle.histogram.specs.Terms.{valid_from}
use Rattle.histogram.proofs.Ascent.{ValidFrom, valid_before}
use Rattle.fewest.specs.Node.{Within}
use Rattle.fewest.specs.Terms.{lookup}
use Rattle.claims.specs.Inner.{lowered, term_node, term_value, with_term, gathered}
use Rattle.claims.proofs.Lifted.{lifted_lowered, lowered_within}

module _ (term_at : ℕ → Option ℕ) where
  -- a node before the first has no term
  none_before : (first count node : ℕ) → node < first → lookup term_node term_value (gathered term_at first count) node ≡ none
  unfolding gathered lookup
  none_before first zero node before = refl
  none_before first (suc count) node before = split (term_at first) (none_before (suc first) count node (omega arith))
    where
      split : (term : Option ℕ) → lookup term_node term_value (gathered term_at (suc first) count) node ≡ none
          → lookup term_node term_value (with_term first term (gathered term_at (suc first) count)) node ≡ none
      split none later = later
      split (some value) later = rw (ne_eqb first node (λ same. omega arith)) later

  pub gathered_looks_up : (first count node : ℕ) → first ≤ node → node < first + count → lookup term_node term_value (gathered term_at first count) node ≡ term_at node
  unfolding gathered lookup
  gathered_looks_up first zero node from below = absurd (omega arith)
  gathered_looks_up first (suc count) node from below = place (ℕ_discrete node first) (λ past. gathered_looks_up (suc first) count node past (omega arith))
    where
      here : (term : Option ℕ) → lookup term_node term_value (with_term first term (gathered term_at (suc first) count)) first ≡ term
      here none = none_before (suc first) count first (omega arith)
      here (some value) = rw (eq-eqb first first refl) (ap some (lifted_lowered value))

      later : (term : Option ℕ) → first < node → lookup term_node term_value (gathered term_at (suc first) count) node ≡ term_at node
          → lookup term_node term_value (with_term first term (gathered term_at (suc first) count)) node ≡ term_at node
      later none past found = found
      later (some value) past found = rw (ne_eqb first node (λ same. omega arith)) found

      place : Dec (node ≡ first) → (suc first ≤ node → lookup term_node term_value (gathered term_at (suc first) count) node ≡ term_at node)
          → lookup term_node term_value (with_term first (term_at first) (gathered term_at (suc first) count)) node ≡ term_at node
      place (yes same) found = rw same (here (term_at first))
      place (no other) found = later (term_at first) (omega arith) (found (omega arith))

  pub gathered_valid : ((node : ℕ) → Within 40000 (term_at node)) → (last first count end : ℕ) → last < first → first + count ≤ end → ValidFrom last end (gathered term_at first count)
  unfolding gathered valid_from
  gathered_valid within last first zero end above below = record { passes = tt }
  gathered_valid within last first (suc count) end above below =
      split (term_at first) (within first) (λ bound under. gathered_valid within bound (suc first) count end under (omega arith))
    where
      split : (term : Option ℕ) → Within 40000 term → ((bound : ℕ) → bound < suc first → ValidFrom bound end (gathered term_at (suc first) count))
          → ValidFrom last end (with_term first term (gathered term_at (suc first) count))
      split none first_within later = later last (omega arith)
      split (some value) first_within later =
          valid_before (record { node = first; value = lowered value }) above (omega arith) (lowered_within value first_within) (later first (omega arith))
