-- The tree of two children each, by its numbers: its nodes are 1 to 2 ^ (height + 1) - 1, its leaves those from 2 ^ height on. By halving.
use mathlib.Core.Path.{◌≡◌}
use Prim.Native.Nat.{ℕ, zero, suc, ◌/◌, ◌^◌, ◌≤◌, ◌<◌}
use native.Mathlib.Decide.{ℕ_discrete}
use native.Mathlib.Omega.{arith}
use Rattle.fewest.specs.Tree.{binary, ancestor, InTree}

-- each number of 1 to 2 ^ (height + 1) - 1 is a node of the tree
pub number_in_tree : (height n : ℕ) → 1 ≤ n → n < 2 ^ suc height → InTree binary height n
unfolding ancestor binary
number_in_tree zero n from below = record { levels = 0; in_height = omega arith; under_root = omega arith }
number_in_tree (suc height) n from below = split (ℕ_discrete n 1) (number_in_tree height (n / 2))
  where
    split : Dec (n ≡ 1) → (1 ≤ n / 2 → n / 2 < 2 ^ suc height → InTree binary height (n / 2)) → InTree binary (suc height) n
    split (yes root) half = record { levels = 0; in_height = omega arith; under_root = root }
    split (no inner) half =
        let above = half (omega arith) (omega arith) in
        record { levels = suc above.levels; in_height = omega (arith, above.in_height); under_root = above.under_root }

-- each number of 2 ^ levels to 2 ^ (levels + 1) - 1 is so many levels below the root
pub number_at_level : (levels n : ℕ) → 2 ^ levels ≤ n → n < 2 ^ suc levels → ancestor binary levels n ≡ 1
unfolding ancestor binary
number_at_level zero n from below = omega arith
number_at_level (suc levels) n from below = number_at_level levels (n / 2) (omega arith) (omega arith)

-- a node so many levels below the root is numbered from 2 ^ levels
pub level_from : (levels n : ℕ) → ancestor binary levels n ≡ 1 → 2 ^ levels ≤ n
unfolding ancestor binary
level_from zero n under = omega arith
level_from (suc levels) n under = omega (arith, level_from levels (n / 2) under)

-- and below 2 ^ (levels + 1)
pub level_below : (levels n : ℕ) → ancestor binary levels n ≡ 1 → n < 2 ^ suc levels
unfolding ancestor binary
level_below zero n under = omega arith
level_below (suc levels) n under = omega (arith, level_below levels (n / 2) under)
