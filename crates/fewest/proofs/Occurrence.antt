-- A node of the tree occurs once in it: the marks of a node n, 1 at n and 0 elsewhere, sum up to 1 over the tree.
-- By induction on the height: the children of i hold n exactly where i is the node above n, so a subtree's sum counts how often its root is on n's path.
use mathlib.Core.Path.{◌≡◌, refl, sym, ap, ◌∙◌, subst}
use mathlib.Core.Logic.{◌≢◌}
use mathlib.Core.Bool.{Bool, true, false}
use Prim.Native.Nat.{ℕ, zero, suc, ◌+◌, ◌≤◌}
use native.Mathlib.Omega.{arith}
use lib.Dec.{T, eqb, eqb→eq, eqb_refl, T_not}
use Rattle.fewest.specs.Tree.{Shape, InTree, total, tree_sum, ancestor}
use Rattle.fewest.proofs.Total.{total_same, total_adds, total_of_none, total_of_one}

-- 1 where a test is passed, 0 where it is missed
abbrev pub passed : Bool → ℕ
passed true = 1
passed false = 0

-- 1 at node n, 0 elsewhere
unfoldable pub mark : ℕ → ℕ → ℕ
mark n i = passed (eqb n i)

-- the mark that two nodes have, by whether they are one
data Marked (n i : ℕ) : ℕ → Type 0 where
  same : n ≡ i → Marked n i 1
  other : n ≢ i → Marked n i 0

-- the mark of n at i is one of the two
marked : (n i : ℕ) → Marked n i (mark n i)
unfolding mark
marked n i = split (eqb n i) refl
  where
    split : (test : Bool) → eqb n i ≡ test → Marked n i (passed test)
    split true answer = same (eqb→eq n i (rw answer tt))
    split false answer = other (λ equal. T_not (eqb n i) (rw answer tt) (subst (λ x. T (eqb n x)) equal (eqb_refl n)))

-- the mark at the node itself
mark_of_same : (n i : ℕ) → n ≡ i → mark n i ≡ 1
mark_of_same n i equal = split (marked n i)
  where
    split : {m : ℕ} → Marked n i m → m ≡ 1
    split (same is_same) = refl
    split (other differs) = absurd (differs equal)

-- the mark elsewhere
mark_of_other : (n i : ℕ) → n ≢ i → mark n i ≡ 0
mark_of_other n i unequal = split (marked n i)
  where
    split : {m : ℕ} → Marked n i m → m ≡ 0
    split (same is_same) = absurd (unequal is_same)
    split (other differs) = refl

module _ (shape : Shape) where
  -- n is among the children of i exactly where i is the node above n
  kids_marked : (n i : ℕ) → 1 ≤ i → total shape.arity (λ c. mark n (shape.kid i c)) ≡ mark (shape.par n) i
  kids_marked n i node = split (marked (shape.par n) i)
    where
      split : {m : ℕ} → Marked (shape.par n) i m → total shape.arity (λ c. mark n (shape.kid i c)) ≡ m
      split (same above) =
          let is_kid : n ≡ shape.kid i (shape.place n) = rw above at (shape.kid_of_par n (rw above node)) in
          total_of_one shape.arity (λ c. mark n (shape.kid i c)) (shape.place n) (shape.place_below n)
          (mark_of_same n (shape.kid i (shape.place n)) is_kid)
          (λ c below elsewhere. mark_of_other n (shape.kid i c) (λ equal. elsewhere (shape.kids_differ i c (shape.place n) (sym equal ∙ is_kid))))
      split (other not_above) =
          total_of_none shape.arity (λ c. mark n (shape.kid i c))
          (λ c below. mark_of_other n (shape.kid i c) (λ equal. not_above (ap shape.par equal ∙ shape.par_of_kid i c node below)))

  -- of n and so many nodes above it, how many are i
  path_marks : ℕ → ℕ → ℕ → ℕ
  path_marks zero n i = mark n i
  path_marks (suc levels) n i = mark n i + path_marks levels (shape.par n) i

  -- the same for a path: the children of i are on it as often as i is on the path from the node above
  kids_path_marked : (levels n i : ℕ) → 1 ≤ i → total shape.arity (λ c. path_marks levels n (shape.kid i c)) ≡ path_marks levels (shape.par n) i
  unfolding path_marks
  kids_path_marked zero n i node = kids_marked n i node
  kids_path_marked (suc levels) n i node =
      total_adds shape.arity (λ c. mark n (shape.kid i c)) (λ c. path_marks levels (shape.par n) (shape.kid i c))
      ∙ omega (arith, kids_marked n i node, kids_path_marked levels (shape.par n) i node)

  -- a subtree's sum counts how often its root is on the node's path
  sum_of_marks : (n height i : ℕ) → 1 ≤ i → tree_sum shape (mark n) height i ≡ path_marks height n i
  unfolding tree_sum path_marks
  sum_of_marks n zero i node = refl
  sum_of_marks n (suc height) i node =
      omega (
        arith,
        total_same shape.arity (λ c. tree_sum shape (mark n) height (shape.kid i c)) (λ c. path_marks height n (shape.kid i c))
            (λ c below. sum_of_marks n height (shape.kid i c) (shape.kid_is_node i c node below)),
        kids_path_marked height n i node,
      )

  -- a path from above the root does not hold the root
  no_root_above : (levels n : ℕ) → n ≡ 0 → path_marks levels n 1 ≡ 0
  unfolding path_marks
  no_root_above zero n none = mark_of_other n 1 (omega arith)
  no_root_above (suc levels) n none =
      omega (arith, mark_of_other n 1 (omega arith), no_root_above levels (shape.par n) (ap shape.par none ∙ shape.par_of_none))

  -- and stays above it
  no_ancestor : (levels n : ℕ) → n ≡ 0 → ancestor shape levels n ≡ 0
  unfolding ancestor
  no_ancestor zero n none = none
  no_ancestor (suc levels) n none = no_ancestor levels (shape.par n) (ap shape.par none ∙ shape.par_of_none)

  -- so what is under the root is a node
  pub node_under_root : (levels n : ℕ) → ancestor shape levels n ≡ 1 → 1 ≤ n
  node_under_root levels zero under = absurd (omega (arith, under, no_ancestor levels 0 refl))
  node_under_root levels (suc n) under = omega arith

  -- the root is once on the path of a node under it
  root_once : (height levels n : ℕ) → levels ≤ height → ancestor shape levels n ≡ 1 → path_marks height n 1 ≡ 1
  unfolding path_marks ancestor
  root_once zero zero n within under = mark_of_same n 1 under
  root_once zero (suc levels) n within under = absurd (omega arith)
  root_once (suc height) zero n within under =
      omega (arith, mark_of_same n 1 under, no_root_above height (shape.par n) (ap shape.par under ∙ shape.par_of_root))
  root_once (suc height) (suc levels) n within under =
      omega (
        arith,
        mark_of_other n 1 (λ is-root. omega (arith, under, no_ancestor levels (shape.par n) (ap shape.par is-root ∙ shape.par_of_root))),
        root_once height levels (shape.par n) (omega arith) under,
      )

  -- a node of the tree occurs once in it
  pub node_occurs_once : (height n : ℕ) → InTree shape height n → tree_sum shape (mark n) height 1 ≡ 1
  node_occurs_once height n in_tree =
      sum_of_marks n height 1 (omega arith) ∙ root_once height in_tree.levels n in_tree.in_height in_tree.under_root
