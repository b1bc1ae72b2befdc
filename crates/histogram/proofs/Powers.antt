-- Laws beside the tree's definitions: `height n` is the least h with n ≤ 2 ^ h, and `level_of i` the one e with 2 ^ e ≤ i < 2 ^ (e + 1).
-- Both go by induction on the number: one more is still within the power before it, or doubles it.
use mathlib.Core.Path.{◌≡◌, refl, ap, ◌∙◌}
use mathlib.Core.Bool.{Bool, true, false, cond}
use mathlib.Core.Logic.{◌⊎◌, inl, inr, ⊎_elim}
use Prim.Native.Nat.{ℕ, zero, suc, ◌+◌, ◌-◌, ◌/◌, ◌^◌, ◌≤◌, ◌<◌, max}
use native.Mathlib.Omega.{arith}
use lib.Dec.{leb}
use lib.Pow.{pow_pos, pow_mono}
use lib.Count.{count_leading_zeros, leading_top}
use borrow.Author.Tests.{leb-true, leb-false, le-ltb}
use Rattle.histogram.specs.Tree.{height, padded, IsLevel, level_of, level_answer}
use Rattle.std.proofs.lemmas.Bool.{cases_lt}

pub height_reaches : (n : ℕ) → n ≤ 2 ^ height n
unfolding height
height_reaches zero = omega arith
height_reaches (suc n) = split (leb (suc n) (2 ^ height n)) refl (height_reaches n)
  where
    split : (test : Bool) → leb (suc n) (2 ^ height n) ≡ test → n ≤ 2 ^ height n → suc n ≤ 2 ^ cond test (height n) (suc (height n))
    split true answer before = leb-true (suc n) (2 ^ height n) answer
    split false answer before = let doubled : suc n ≤ 2 ^ suc (height n) = omega (arith, pow_pos (height n)) in doubled

-- no smaller power will do
pub height_least : (n k : ℕ) → n ≤ 2 ^ k → height n ≤ k
unfolding height
height_least zero k within = omega arith
height_least (suc n) k within = split (leb (suc n) (2 ^ height n)) refl (height_least n k (omega arith))
  where
    higher : 2 ^ height n < suc n → (height n < k) ⊎ (k ≤ height n) → suc (height n) ≤ k
    higher past (inl less) = less
    higher past (inr more) = absurd (omega (arith, pow_mono more))

    split : (test : Bool) → leb (suc n) (2 ^ height n) ≡ test → height n ≤ k → cond test (height n) (suc (height n)) ≤ k
    split true answer before = before
    split false answer before = higher (leb-false (suc n) (2 ^ height n) answer) (cases_lt (height n) k)

-- the tree over a power of two slots has that height
pub height_of_power : (power : ℕ) → height (2 ^ power) ≡ power
height_of_power power =
    ⊎_elim
    (λ lower. absurd (omega (arith, height_reaches (2 ^ power), pow_pos (height (2 ^ power)), pow_mono {i = suc (height (2 ^ power))} {j = power} lower)))
    (λ not_lower. omega (arith, height_least (2 ^ power) power (omega arith)))
    (cases_lt (height (2 ^ power)) power)

pub level_rule : (i : ℕ) → 1 ≤ i → IsLevel i (level_of i)
unfolding level_of
level_rule zero from_one = absurd (omega arith)
level_rule (suc zero) from_one = record { reached = omega arith; next_not = omega arith }
level_rule (suc (suc i)) from_one = split (leb (2 ^ suc (level_of (suc i))) (suc (suc i))) refl (level_rule (suc i) (omega arith))
  where
    split : (test : Bool) → leb (2 ^ suc (level_of (suc i))) (suc (suc i)) ≡ test
        → IsLevel (suc i) (level_of (suc i)) → IsLevel (suc (suc i)) (cond test (suc (level_of (suc i))) (level_of (suc i)))
    split true answer before = record { reached = leb-true _ _ answer; next_not = omega (arith, before.next_not) }
    split false answer before = record { reached = omega (arith, before.reached); next_not = leb-false _ _ answer }

-- of two levels of one node neither is the lower
not_lower : {i e f : ℕ} → IsLevel i e → IsLevel i f → e < f → ⊥
not_lower one other less = omega (arith, one.next_not, other.reached, pow_mono less)

pub level_only : {i e f : ℕ} → IsLevel i e → IsLevel i f → e ≡ f
level_only {i} {e} {f} one other =
    ⊎_elim
    (λ less. absurd (not_lower one other less))
    (λ not-less. ⊎_elim (λ more. absurd (not_lower other one more)) (λ not_more. omega arith) (cases_lt f e))
    (cases_lt e f)

-- a number in `width` bits: the zeros above its highest set bit, that bit, and below it as many bits as the level says
pub zeros_above : (width : ℕ) {node : ℕ} → 1 ≤ node → node < 2 ^ width → count_leading_zeros width node + suc (level_of node) ≡ width
zeros_above width {node} from_one fits =
    let highest = leading_top width node from_one fits in
    let same : level_of node ≡ highest.0 = level_only (level_rule node from_one) (record { reached = highest.2; next_not = highest.3 }) in
    rw same highest.1

-- the node above stands one level higher
pub level_half : (i : ℕ) → 2 ≤ i → level_of i ≡ suc (level_of (i / 2))
level_half i from-two =
    let above = level_rule (i / 2) (omega arith) in
    level_only (level_rule i (omega arith)) (record { reached = omega (arith, above.reached); next_not = omega (arith, above.next_not) })

pub height_bound : {n : ℕ} → n ≤ 512 → height n ≤ 9
height_bound few = height_least _ 9 few

pub padded_bound : {n : ℕ} → n ≤ 512 → padded n ≤ 512
padded_bound few = pow_mono (height_bound few)

pub level_in_tree : {node : ℕ} → node ≤ 1023 → level_answer node ≡ level_of node
level_in_tree {node} in_tree = rw (le-ltb 1023 node in_tree)

-- in 16 bits, the zeros above a node's highest set bit and one more than its level make 16
pub level_by_zeros : {node : ℕ} → 1 ≤ node → node ≤ 1023 → 15 - count_leading_zeros 16 node ≡ level_answer node
level_by_zeros from_one in_tree = omega (arith, zeros_above 16 from_one (omega arith), level_in_tree in_tree)
