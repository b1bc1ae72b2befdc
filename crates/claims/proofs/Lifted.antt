-- Values lifted by 20,000: the distance of two of them is the absolute difference of the values.
use mathlib.Core.Path.{◌≡◌, refl, ap}
use mathlib.Core.Bool.{Bool, true, false, cond}
use Prim.Native.Nat.{ℕ, zero, suc, ◌+◌, ◌-◌, ◌≤◌}
use native.Mathlib.Omega.{arith}
use lib.Dec.{ltb}
use lib.IntN.{ℤ, pos, negsuc, ◌-ℤ◌, sub_ℕ, nat_abs}
use borrow.Author.Tests.{ltb-true, ltb-false, lt-ltb, le-ltb}
use Rattle.claims.specs.Inner.{lifted, lowered, distance}

pub lifted_within : (z : ℤ) → nat_abs z ≤ 20000 → lifted z ≤ 40000
lifted_within (pos n) within = omega arith
lifted_within (negsuc n) within = omega arith

-- the size of a difference of two natural numbers
pub size_of_difference : (a b : ℕ) → nat_abs (sub_ℕ a b) ≡ (a - b) + (b - a)
size_of_difference a b = split (ltb a b) refl
  where
    split : (test : Bool) → ltb a b ≡ test → nat_abs (cond test (negsuc (b - suc a)) (pos (a - b))) ≡ (a - b) + (b - a)
    split true answer = omega (arith, ltb-true a b answer)
    split false answer = omega (arith, ltb-false a b answer)

pub distance_lifted : (x y : ℤ) → nat_abs x ≤ 20000 → nat_abs y ≤ 20000 → nat_abs (x -ℤ y) ≡ distance (lifted x) (lifted y)
distance_lifted (pos a) (pos zero) x-within y-within = omega arith
distance_lifted (pos a) (pos (suc b)) x-within y-within = omega (arith, size_of_difference a (suc b))
distance_lifted (pos a) (negsuc b) x-within y-within = omega arith
distance_lifted (negsuc a) (pos zero) x-within y-within = omega (arith, size_of_difference 0 (suc a))
distance_lifted (negsuc a) (pos (suc b)) x-within y-within = omega arith
distance_lifted (negsuc a) (negsuc b) x-within y-within = omega (arith, size_of_difference (suc b) (suc a))

-- a difference of two natural numbers, lifted
pub lifted_difference : (a b : ℕ) → b ≤ 20000 + a → lifted (sub_ℕ a b) + b ≡ 20000 + a
lifted_difference a b below = split (ltb a b) refl
  where
    split : (test : Bool) → ltb a b ≡ test → lifted (cond test (negsuc (b - suc a)) (pos (a - b))) + b ≡ 20000 + a
    split true answer = omega (arith, ltb-true a b answer)
    split false answer = omega (arith, ltb-false a b answer)

pub lifted_lowered : (number : ℕ) → lifted (lowered number) ≡ number
lifted_lowered number = omega (arith, lifted_difference number 20000 (omega arith))

-- a value within ±20,000, lifted and lowered again, is the value
pub lowered_lifted : (z : ℤ) → nat_abs z ≤ 20000 → lowered (lifted z) ≡ z
lowered_lifted (pos n) within = rw (le-ltb (20000 + n) 20000 (omega arith)) (ap pos (omega arith))
lowered_lifted (negsuc n) within = rw (lt-ltb (20000 - suc n) 20000 (omega arith)) (ap negsuc (omega arith))

pub lowered_within : (number : ℕ) → number ≤ 40000 → nat_abs (lowered number) ≤ 20000
lowered_within number within = omega (arith, size_of_difference number 20000)
