-- Laws of the order of refusals: a refusal that counts, one that is none, and what follows where there is none.
use mathlib.Core.Path.{◌≡◌, refl, subst}
use mathlib.Core.Bool.{Bool, true, false, ◌||◌}
use Prim.Native.Nat.{ℕ, zero, suc, ◌≤◌, ◌<◌}
use native.Mathlib.Omega.{arith}
use lib.Dec.{T, ltb, eqb}
use borrow.Author.Tests.{ltb-false, eqb-false}
use Rattle.limits.specs.Answers.{◌when◌, ◌then◌, granted}
use Rattle.limits.specs.Limits.{outside_slots}

pub first_counts : (refusal later : ℕ) → 0 < refusal → refusal then later ≡ refusal
first_counts zero later wrong = absurd (omega arith)
first_counts (suc refusal) later wrong = refl

pub granted_nothing {ℓ} : {A : Type ℓ} (refusal : ℕ) (result nothing : A) → 0 < refusal → granted refusal result nothing ≡ nothing
granted_nothing zero result nothing wrong = absurd (omega arith)
granted_nothing (suc refusal) result nothing wrong = refl

-- what comes later counts only where the first refusal is none
pub then_same : (first : ℕ) {later later' : ℕ} → (first ≡ 0 → later ≡ later') → first then later ≡ first then later'
then_same zero same = same refl
then_same (suc first) same = refl

-- where nothing comes later, the first refusal is the answer
pub then_none : (first : ℕ) {later : ℕ} → (first ≡ 0 → later ≡ 0) → first then later ≡ first
then_none zero none = none refl
then_none (suc first) none = refl

pub granted_same : {A : Type 0} (refusal : ℕ) {result result' : A} (nothing : A) → (refusal ≡ 0 → result ≡ result') → granted refusal result nothing ≡ granted refusal result' nothing
granted_same zero nothing same = same refl
granted_same (suc refusal) nothing same = refl

-- none of two refusals
pub none_of_two : (first later : ℕ) → first then later ≡ 0 → (first ≡ 0) × (later ≡ 0)
none_of_two zero later none = (refl, none)
none_of_two (suc first) later none = absurd (omega arith)

-- a test that did not refuse, and what comes after it
pub passed : (number : ℕ) (test : Bool) (later : ℕ) → suc number when test then later ≡ 0 → (test ≡ false) × (later ≡ 0)
passed number true later none = absurd (omega arith)
passed number false later none = (refl, none)

pub passed_last : (number : ℕ) (test : Bool) → suc number when test ≡ 0 → test ≡ false
passed_last number true none = absurd (omega arith)
passed_last number false none = refl

pub record SlotsWithin (n : ℕ) : Type 0 where
  pub some_slot : 1 ≤ n
  pub few_slots : n ≤ 512

pub slots_within : (n : ℕ) → outside_slots n ≡ false → SlotsWithin n
slots_within n inside = split (eqb n 0) refl (ltb 512 n) refl inside
  where
    split : (none : Bool) → eqb n 0 ≡ none → (many : Bool) → ltb 512 n ≡ many → (none || many) ≡ false → SlotsWithin n
    split true none_is many many_is inside = absurd (subst T inside tt)
    split false none_is true many_is inside = absurd (subst T inside tt)
    split false none_is false many_is inside = record { some_slot = omega (arith, eqb-false n 0 none_is); few_slots = ltb-false 512 n many_is }
