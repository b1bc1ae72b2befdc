-- What `lowest` says of a test: the number passes, no lower one does, and it is the only such number.
use mathlib.Core.Path.{◌≡◌, refl, sym, ap, ap₂, ◌∙◌}
use mathlib.Core.Bool.{Bool, true, false, cond, false≢true}
use Prim.Native.Nat.{ℕ, zero, suc, ◌≤◌, ◌<◌}
use native.Mathlib.Nat.{le_of_suc-le-suc, lt_of_not-le}
use native.Mathlib.Omega.{arith}
use Rattle.limits.specs.Lowest.{lowest}

-- it passes, where one of the numbers does
pub lowest_passes : (test : ℕ → Bool) (count : ℕ) → lowest test count < count → test (lowest test count) ≡ true
unfolding lowest
lowest_passes test zero found = absurd (omega arith)
lowest_passes test (suc count) found = by_first (test 0) refl found (lowest_passes (λ k. test (suc k)) count)
  where
    by_first : (first : Bool) → test 0 ≡ first → cond first 0 (suc (lowest (λ k. test (suc k)) count)) < suc count
        → (lowest (λ k. test (suc k)) count < count → test (suc (lowest (λ k. test (suc k)) count)) ≡ true) → test (cond first 0 (suc (lowest (λ k. test (suc k)) count))) ≡ true
    by_first true is within others = is
    by_first false is within others = others (omega arith)

-- no lower number passes
pub lowest_first : (test : ℕ → Bool) (count k : ℕ) → k < lowest test count → test k ≡ false
unfolding lowest
lowest_first test zero k below = absurd (omega arith)
lowest_first test (suc count) k below = by_first (test 0) refl k below (lowest_first (λ i. test (suc i)) count)
  where
    by_first : (first : Bool) → test 0 ≡ first → (j : ℕ) → j < cond first 0 (suc (lowest (λ i. test (suc i)) count))
        → ((i : ℕ) → i < lowest (λ i. test (suc i)) count → test (suc i) ≡ false) → test j ≡ false
    by_first true is j lower others = absurd (omega arith)
    by_first false is zero lower others = is
    by_first false is (suc j) lower others = others j (omega arith)

-- a number that passes is not below it
pub lowest_most : (test : ℕ → Bool) (count k : ℕ) → test k ≡ true → lowest test count ≤ k
lowest_most test count k passes = le_of_suc-le-suc (lt_of_not-le (λ (below : k < lowest test count). false≢true (sym (lowest_first test count k below) ∙ passes)))

-- the lowest that passes, where those below it fail
pub lowest_is : (test : ℕ → Bool) (count k : ℕ) → k < count → ((j : ℕ) → j < k → test j ≡ false) → test k ≡ true → lowest test count ≡ k
unfolding lowest
lowest_is test zero k below fail passes = absurd (omega arith)
lowest_is test (suc count) zero below fail passes = rw passes
lowest_is test (suc count) (suc k) below fail passes =
    rw (fail 0 (omega arith)) (ap suc (lowest_is (λ j. test (suc j)) count k (omega arith) (λ j less. fail (suc j) (omega arith)) passes))

-- tests that agree below `count` have the same lowest number
pub lowest_same : (one other : ℕ → Bool) (count : ℕ) → ((k : ℕ) → k < count → one k ≡ other k) → lowest one count ≡ lowest other count
unfolding lowest
lowest_same one other zero same = refl
lowest_same one other (suc count) same =
    ap₂ (λ (first : Bool) (later : ℕ). cond first 0 (suc later)) (same 0 (omega arith))
    (lowest_same (λ k. one (suc k)) (λ k. other (suc k)) count (λ k below. same (suc k) (omega arith)))
