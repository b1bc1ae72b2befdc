-- The value restored at a node is its term's, or else the value restored at the node above it.
use mathlib.Core.Path.{◌≡◌, refl, ap, sym, ◌∙◌}
use mathlib.Core.List.{List}
use Prim.Native.Nat.{ℕ, zero, suc, ◌-◌, ◌/◌, ◌≤◌, ◌<◌}
use native.Mathlib.Omega.{arith}
use lib.IntN.{ℤ}
use Rattle.histogram.specs.declared.Term.{Term}
use Rattle.histogram.specs.Terms.{term_or}
use Rattle.histogram.specs.Tree.{level_of}
use Rattle.histogram.specs.Restored.{restored, path_nodes, restored_at}
use Rattle.histogram.proofs.Powers.{level_half}

pub path_of_node : (i : ℕ) → 1 ≤ i → path_nodes i ≡ suc (level_of i)
path_of_node zero from_one = absurd (omega arith)
path_of_node (suc i) from_one = refl

-- the path from the node above has as many nodes as the node's level says
path_above : (i : ℕ) → 1 ≤ i → level_of i ≡ path_nodes (i / 2)
unfolding level_of
path_above zero from_one = absurd (omega arith)
path_above (suc zero) from_one = refl
path_above (suc (suc i)) from_one = level_half (suc (suc i)) (omega arith) ∙ sym (path_of_node (suc (suc i) / 2) (omega arith))

module _ (rest : ℤ) (terms : List Term) where
  pub at_no_node : restored_at rest terms 0 ≡ rest
  unfolding restored
  at_no_node = refl

  pub from_above : (node : ℕ) → 1 ≤ node → restored_at rest terms node ≡ term_or (restored_at rest terms (node / 2)) terms node
  unfolding restored
  from_above zero from_one = absurd (omega arith)
  from_above (suc i) from_one = ap (λ (count : ℕ). term_or (restored rest terms count (suc i / 2)) terms (suc i)) (path_above (suc i) from_one)

  -- one step of the way up, with a count of the nodes that are left
  pub one_step_up : (count node : ℕ) → 0 < count → restored rest terms count node ≡ term_or (restored rest terms (count - 1) (node / 2)) terms node
  unfolding restored
  one_step_up zero node some_left = absurd (omega arith)
  one_step_up (suc count) node some_left =
      let one_less : count ≡ suc count - 1 = omega arith in
      ap (λ (left : ℕ). term_or (restored rest terms left (node / 2)) terms node) one_less
