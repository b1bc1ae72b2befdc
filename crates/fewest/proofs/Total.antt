-- Sums over children: they grow with what is summed, and are equal only where each part is; they add up, and are 0 or 1 where what is summed is. Each by induction on the number of children.
use mathlib.Core.Path.{◌≡◌, refl, ap}
use mathlib.Core.Logic.{◌≢◌}
use Prim.Native.Nat.{ℕ, zero, suc, ◌+◌, ◌≤◌, ◌<◌}
use native.Mathlib.Decide.{ℕ_discrete}
use native.Mathlib.Omega.{arith}
use Rattle.fewest.specs.Tree.{total}

-- a sum of no greater parts is no greater
pub total_at_most : (count : ℕ) (g k : ℕ → ℕ) → ((c : ℕ) → c < count → g c ≤ k c) → total count g ≤ total count k
unfolding total
total_at_most zero g k each = omega arith
total_at_most (suc count) g k each = omega (arith, total_at_most count g k (λ c below. each c (omega arith)), each count (omega arith))

-- where no part is greater and yet the sum is no smaller, each part is equal
pub total_tight : (count : ℕ) (g k : ℕ → ℕ) → ((c : ℕ) → c < count → g c ≤ k c) → total count k ≤ total count g → (c : ℕ) → c < count → k c ≤ g c
unfolding total
total_tight zero g k each no_smaller c below = absurd (omega arith)
total_tight (suc count) g k each no_smaller c below =
    split (ℕ_discrete c count) (total_at_most count g k (λ d earlier. each d (omega arith)))
    (total_tight count g k (λ d earlier. each d (omega arith)) (omega (arith, each count (omega arith))) c)
  where
    split : Dec (c ≡ count) → total count g ≤ total count k → (c < count → k c ≤ g c) → k c ≤ g c
    split (yes last) others earlier = rw last (omega arith)
    split (no not_last) others earlier = earlier (omega arith)

-- a sum of equal parts is equal
pub total_same : (count : ℕ) (g k : ℕ → ℕ) → ((c : ℕ) → c < count → g c ≡ k c) → total count g ≡ total count k
unfolding total
total_same zero g k each = refl
total_same (suc count) g k each = omega (arith, total_same count g k (λ c below. each c (omega arith)), each count (omega arith))

-- the sum of sums is the sum of both
pub total_adds : (count : ℕ) (g k : ℕ → ℕ) → total count (λ c. g c + k c) ≡ total count g + total count k
unfolding total
total_adds zero g k = refl
total_adds (suc count) g k = omega (arith, total_adds count g k)

-- a sum with nothing in it is 0
pub total_of_none : (count : ℕ) (g : ℕ → ℕ) → ((c : ℕ) → c < count → g c ≡ 0) → total count g ≡ 0
unfolding total
total_of_none zero g each = refl
total_of_none (suc count) g each = omega (arith, total_of_none count g (λ c below. each c (omega arith)), each count (omega arith))

-- a sum with a single 1 in it is 1
pub total_of_one : (count : ℕ) (g : ℕ → ℕ) (k : ℕ) → k < count → g k ≡ 1 → ((c : ℕ) → c < count → c ≢ k → g c ≡ 0) → total count g ≡ 1
unfolding total
total_of_one zero g k within at-k others = absurd (omega arith)
total_of_one (suc count) g k within at-k others =
    split (ℕ_discrete count k) (λ before. total_of_one count g k before at-k (λ c below. others c (omega arith)))
  where
    split : Dec (count ≡ k) → (k < count → total count g ≡ 1) → total count g + g count ≡ 1
    split (yes last) earlier = omega (arith, total_of_none count g (λ c below. others c (omega arith) (omega arith)), ap g last)
    split (no not_last) earlier = omega (arith, earlier (omega arith), others count (omega arith) not_last)
