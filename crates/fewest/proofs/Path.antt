-- What is restored, read up the path from a leaf, is what the root hands down to it: the topmost node of the path may be read first.
-- So keeping, which is said of each leaf's path, and fitting, which is said from the root down, are one.
use mathlib.Core.Path.{◌≡◌, refl, sym, ap, ◌∙◌, subst, subst⁻¹}
use mathlib.Core.Bool.{Bool}
use mathlib.Core.Option.{Option}
use Prim.Native.Nat.{ℕ, zero, suc, ◌≤◌}
use native.Mathlib.Omega.{arith}
use lib.Dec.{T}
use Rattle.fewest.specs.Node.{placed}
use Rattle.fewest.specs.Tree.{Shape, ancestor}
use Rattle.fewest.specs.Walk.{restored_from, Keeps, Fits}

-- one level further up, read from the top or from below
pub ancestor_above : (shape : Shape) (levels n : ℕ) → ancestor shape (suc levels) n ≡ shape.par (ancestor shape levels n)
unfolding ancestor
ancestor_above shape zero n = refl
ancestor_above shape (suc levels) n = ancestor_above shape levels (shape.par n)

module _ (shape : Shape) (term_at : ℕ → Option ℕ) where
  -- the topmost node of the path may be read first
  topmost_first : (v count n : ℕ) → restored_from shape term_at v (suc count) n ≡ restored_from shape term_at (placed (term_at (ancestor shape count n)) v) count n
  unfolding restored_from ancestor
  topmost_first v zero n = refl
  topmost_first v (suc count) n = ap (placed (term_at n)) (topmost_first v count (shape.par n))

  -- the same where that node is known
  topmost_is : (v count n : ℕ) {i : ℕ} → ancestor shape count n ≡ i → restored_from shape term_at v (suc count) n ≡ restored_from shape term_at (placed (term_at i) v) count n
  topmost_is v count n under = topmost_first v count n ∙ ap (λ x. restored_from shape term_at (placed (term_at x) v) count n) under

  module _ (accepts : ℕ → ℕ → Bool) where
    -- where every leaf under node i accepts what its path restores, the subtree fits
    paths_fit : (height i v : ℕ) → 1 ≤ i → ((n : ℕ) → ancestor shape height n ≡ i → T (accepts n (restored_from shape term_at v (suc height) n)))
        → Fits shape accepts term_at height i v
    unfolding Fits restored_from ancestor
    paths_fit zero i v node each = each i refl
    paths_fit (suc height) i v node each = λ c below.
        paths_fit height (shape.kid i c) (placed (term_at i) v) (shape.kid_is_node i c node below)
        (λ n under. further n (ancestor_above shape height n ∙ ap shape.par under ∙ shape.par_of_kid i c node below))
      where
        further : (n : ℕ) → ancestor shape (suc height) n ≡ i → T (accepts n (restored_from shape term_at (placed (term_at i) v) (suc height) n))
        further n under = subst (λ x. T (accepts n x)) (topmost_is v (suc height) n under) (each n under)

    -- where the subtree at node i fits, every leaf under i accepts what its path restores
    fit_paths : (height i v : ℕ) → 1 ≤ i → Fits shape accepts term_at height i v
        → (n : ℕ) → ancestor shape height n ≡ i → T (accepts n (restored_from shape term_at v (suc height) n))
    unfolding Fits restored_from ancestor
    fit_paths zero i v node fits n under = rw under fits
    fit_paths (suc height) i v node fits n under =
        let child : ℕ = ancestor shape height n in
        let par_is : shape.par child ≡ i = sym (ancestor_above shape height n) ∙ under in
        subst⁻¹ (λ x. T (accepts n x)) (topmost_is v (suc height) n under)
        (fit_paths height (shape.kid i (shape.place child)) (placed (term_at i) v) (shape.kid_is_node i (shape.place child) node (shape.place_below child))
        (fits (shape.place child) (shape.place_below child)) n
        (shape.kid_of_par child (omega arith) ∙ ap (λ x. shape.kid x (shape.place child)) par_is))

    -- a synopsis that keeps fits from the root down
    pub keeps_fits : (height rest : ℕ) → Keeps shape accepts height rest term_at → Fits shape accepts term_at height 1 rest
    keeps_fits height rest keeps = paths_fit height 1 rest (omega arith) keeps.each_leaf

    -- and one that fits keeps
    pub fits_keeps : (height rest : ℕ) → Fits shape accepts term_at height 1 rest → Keeps shape accepts height rest term_at
    fits_keeps height rest fits = record { each_leaf = fit_paths height 1 rest (omega arith) fits }
