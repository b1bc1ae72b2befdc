-- The terms of a list, counted over the tree by look-up, are as many as the list is long: each term adds the marks of its node, which sum up to 1.
use mathlib.Core.Path.{◌≡◌, refl, ap, ◌∙◌, fun_ext}
use mathlib.Core.Bool.{Bool, true, false, cond}
use mathlib.Core.Option.{none, some}
use mathlib.Core.List.{List, [], ◌∷◌}
use Prim.Native.Nat.{ℕ, zero, suc, ◌+◌, ◌≤◌}
use native.Mathlib.Omega.{arith}
use lib.Dec.{eqb, eqb→eq}
use lib.ListN.{length}
use Rattle.fewest.specs.Node.{term_count, Within}
use Rattle.fewest.specs.Tree.{Shape, tree_sum}
use Rattle.fewest.specs.Terms.{lookup, Listed}
use Rattle.fewest.proofs.Total.{total_same, total_adds, total_of_none}
use Rattle.fewest.proofs.Occurrence.{passed, mark, node_occurs_once}

module _ (shape : Shape) where
  -- the sum of sums over a subtree is the sum of both
  sum_adds : (g k : ℕ → ℕ) (height i : ℕ) → tree_sum shape (λ n. g n + k n) height i ≡ tree_sum shape g height i + tree_sum shape k height i
  unfolding tree_sum
  sum_adds g k zero i = refl
  sum_adds g k (suc height) i =
      omega (
        arith,
        total_same shape.arity (λ c. tree_sum shape (λ n. g n + k n) height (shape.kid i c))
            (λ c. tree_sum shape g height (shape.kid i c) + tree_sum shape k height (shape.kid i c)) (λ c below. sum_adds g k height (shape.kid i c)),
        total_adds shape.arity (λ c. tree_sum shape g height (shape.kid i c)) (λ c. tree_sum shape k height (shape.kid i c)),
      )

  -- a sum over a subtree with nothing in it is 0
  sum_of_none : (height i : ℕ) → tree_sum shape (λ n. 0) height i ≡ 0
  unfolding tree_sum
  sum_of_none zero i = refl
  sum_of_none (suc height) i =
      omega (arith, total_of_none shape.arity (λ c. tree_sum shape (λ n. 0) height (shape.kid i c)) (λ c below. sum_of_none height (shape.kid i c)))

module _ {Term : Type 0} (node value : Term → ℕ) (shape : Shape) (height top : ℕ) where
  -- what is looked up is at most `top`
  pub looked_up_within : (last : ℕ) (terms : List Term) → Listed node value shape height top last terms → (i : ℕ) → Within top (lookup node value terms i)
  unfolding lookup Listed
  looked_up_within last [] listed i = tt
  looked_up_within last (term ∷ terms) listed i = split (eqb (node term) i) (looked_up_within (node term) terms listed.3 i)
    where
      split : (test : Bool) → Within top (lookup node value terms i) → Within top (cond test (some (value term)) (lookup node value terms i))
      split true later = listed.2
      split false later = later

  -- up to `last` there is no term
  pub none_before : (last : ℕ) (terms : List Term) (i : ℕ) → Listed node value shape height top last terms → i ≤ last → lookup node value terms i ≡ none
  unfolding lookup Listed
  none_before last [] i listed before = refl
  none_before last (term ∷ terms) i listed before = split (eqb (node term) i) refl (none_before (node term) terms i listed.3 (omega (arith, listed.0)))
    where
      split : (test : Bool) → eqb (node term) i ≡ test → lookup node value terms i ≡ none → cond test (some (value term)) (lookup node value terms i) ≡ none
      split true answer later = absurd (omega (arith, listed.0, eqb→eq (node term) i (rw answer tt)))
      split false answer later = later

  -- the first term adds the marks of its node
  first_adds_marks : (last : ℕ) (term : Term) (terms : List Term) → Listed node value shape height top last (term ∷ terms)
      → (i : ℕ) → term_count (lookup node value (term ∷ terms) i) ≡ mark (node term) i + term_count (lookup node value terms i)
  unfolding lookup Listed mark
  first_adds_marks last term terms listed i = split (eqb (node term) i) refl
    where
      split : (test : Bool) → eqb (node term) i ≡ test
          → term_count (cond test (some (value term)) (lookup node value terms i)) ≡ passed test + term_count (lookup node value terms i)
      split true answer = omega (arith, ap term_count (none_before (node term) terms i listed.3 (omega (arith, eqb→eq (node term) i (rw answer tt)))))
      split false answer = omega arith

  -- the terms over the tree are as many as the list is long
  pub length_is_sum : (last : ℕ) (terms : List Term) → Listed node value shape height top last terms
      → tree_sum shape (λ n. term_count (lookup node value terms n)) height 1 ≡ length terms
  unfolding Listed lookup
  length_is_sum last [] listed = sum_of_none shape height 1
  length_is_sum last (term ∷ terms) listed =
      ap (λ g. tree_sum shape g height 1) (fun_ext (first_adds_marks last term terms listed))
      ∙ omega (
        arith,
        sum_adds shape (mark (node term)) (λ i. term_count (lookup node value terms i)) height 1,
        node_occurs_once shape height (node term) listed.1,
        length_is_sum (node term) terms listed.3,
      )
