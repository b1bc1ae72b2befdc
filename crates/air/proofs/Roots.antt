-- The whole part of a square root is what its words say, and the only such number; another number is at most the root exactly where its square is at most the number.
use mathlib.Core.Path.{◌≡◌}
use mathlib.Core.Bool.{Bool, false}
use Prim.Native.Nat.{ℕ, zero, suc, ◌*◌, ◌≤◌, ◌<◌}
use native.Mathlib.Nat.{le_antisymm, le_of_suc-le-suc, lt_of_not-le, mul-le-mul}
use native.Mathlib.Omega.{arith}
use lib.Dec.{ltb}
use borrow.Author.Tests.{lt-ltb, ltb-true, ltb-false}
use Rattle.limits.specs.Lowest.{lowest}
use Rattle.limits.proofs.Lowest.{lowest_passes, lowest_first, lowest_most}
use Rattle.air.specs.Flows.{IsWholeRoot, whole_root, flow_of}

-- a number's square is above the number before it
next_square : (number : ℕ) → number < suc number * suc number
next_square number = omega arith

-- the test that the root passes first
abbrev next_above : ℕ → ℕ → Bool
next_above number root = ltb number (suc root * suc root)

pub root_rule : (number : ℕ) → IsWholeRoot number (whole_root number)
root_rule number = record {
  reached = at_root (whole_root number) (λ k below. lowest_first (next_above number) (suc number) k below);
  next_not = ltb-true number (suc (whole_root number) * suc (whole_root number)) (lowest_passes (next_above number) (suc number) found);
}
  where
    found : lowest (next_above number) (suc number) < suc number
    found = omega (arith, lowest_most (next_above number) (suc number) number (lt-ltb number (suc number * suc number) (next_square number)))

    at_root : (root : ℕ) → ((k : ℕ) → k < root → next_above number k ≡ false) → root * root ≤ number
    at_root zero none = omega arith
    at_root (suc k) none = ltb-false number (suc k * suc k) (none k (omega arith))

-- every number whose square is reached is the root or lower
pub square_reached : {number root : ℕ} → IsWholeRoot number root → (other : ℕ) → other * other ≤ number → other ≤ root
square_reached {number} {root} is other reached = le_of_suc-le-suc (lt_of_not-le (λ (above : suc root ≤ other). omega (arith, is.next_not, mul-le-mul above above)))

-- and the square of each of these is reached
pub root_reached : {number root : ℕ} → IsWholeRoot number root → (other : ℕ) → other ≤ root → other * other ≤ number
root_reached is other below = omega (arith, is.reached, mul-le-mul below below)

pub root_only : {number one other : ℕ} → IsWholeRoot number one → IsWholeRoot number other → one ≡ other
root_only {number} {one} {other} is also = le_antisymm (square_reached also one is.reached) (square_reached is other also.reached)

-- so a number that is the whole part of the root is the flow
pub flow_is : (step flow : ℕ) → IsWholeRoot (2500 * step) flow → flow_of step ≡ flow
flow_is step flow is = root_only (root_rule (2500 * step)) is
