-- The fewest terms, over a tree: its shape, with any number of children, and sums over it. A reader of the promises need not open this file.
use Rattle.std.specs.Prelude.{◌≡◌, refl, ℕ, zero, suc, ◌+◌, ◌*◌, ◌/◌, ◌%◌, ◌≤◌, ◌<◌}
use Rattle.std.proofs.Common.{arith}

-- how nodes are numbered: the root is 1, an inner node i has the children kid i 0 to kid i (arity - 1), and par n is the node above n, of a lower number
pub record Shape : Type 0 where
  pub arity : ℕ
  pub kid : ℕ → ℕ → ℕ
  pub par : ℕ → ℕ
  pub par_of_kid : (i c : ℕ) → 1 ≤ i → c < arity → par (kid i c) ≡ i
  pub kid_is_node : (i c : ℕ) → 1 ≤ i → c < arity → 1 ≤ kid i c
  pub kids_differ : (i c d : ℕ) → kid i c ≡ kid i d → c ≡ d
  -- which child of the node above it a node is
  pub place : ℕ → ℕ
  pub place_below : (n : ℕ) → place n < arity
  pub kid_of_par : (n : ℕ) → 1 ≤ par n → n ≡ kid (par n) (place n)
  pub par_of_none : par 0 ≡ 0
  pub par_of_root : par 1 ≡ 0
  pub par_lower : (n : ℕ) → 1 ≤ n → par n < n

-- two children each: node i is over nodes 2i and 2i+1
unfoldable pub binary : Shape
binary = record {
  arity = 2;
  kid = λ i c. 2 * i + c;
  par = λ n. n / 2;
  par_of_kid = λ i c node below. omega arith;
  kid_is_node = λ i c node below. omega arith;
  kids_differ = λ i c d same. omega arith;
  place = λ n. n % 2;
  place_below = λ n. omega arith;
  kid_of_par = λ n node. omega arith;
  par_of_none = refl;
  par_of_root = refl;
  par_lower = λ n node. omega arith;
}

-- the sum of what a function gives for 0, 1 and on, `count` of them
unfoldable pub total : ℕ → (ℕ → ℕ) → ℕ
total zero g = 0
total (suc count) g = total count g + g count

module _ (shape : Shape) where
  -- the sum of what a function gives for the nodes of the subtree of a height at a node
  unfoldable pub tree_sum : (ℕ → ℕ) → ℕ → ℕ → ℕ
  tree_sum g zero i = g i
  tree_sum g (suc height) i = g i + total shape.arity (λ c. tree_sum g height (shape.kid i c))

  -- the node so many levels above a node
  unfoldable pub ancestor : ℕ → ℕ → ℕ
  ancestor zero n = n
  ancestor (suc levels) n = ancestor levels (shape.par n)

-- a node of the tree of a height: the root is at most so many levels above it
pub record InTree (shape : Shape) (height n : ℕ) : Type 0 where
  pub levels : ℕ
  pub in_height : levels ≤ height
  pub under_root : ancestor shape levels n ≡ 1
