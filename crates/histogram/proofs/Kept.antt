-- What `every` says of a test at each number, and that `kept` says what `Keeps` says.
use mathlib.Core.Path.{◌≡◌, refl, sym, ap₂, ◌∙◌}
use mathlib.Core.Bool.{Bool, true, false, ◌&&◌, and-false, false≢true}
use mathlib.Core.List.{List}
use Prim.Native.Nat.{ℕ, zero, suc, ◌<◌}
use native.Mathlib.Decide.{ℕ_discrete}
use native.Mathlib.Omega.{arith}
use lib.IntN.{ℤ}
use borrow.Author.Tests.{le-leb, leb-true}
use Rattle.histogram.specs.declared.Term.{Term}
use Rattle.histogram.specs.Errors.{slots_of, slot_error, slot_band, Keeps, every, kept}

pub every_passes : (test : ℕ → Bool) (count : ℕ) → ((k : ℕ) → k < count → test k ≡ true) → every test count ≡ true
unfolding every
every_passes test zero each = refl
every_passes test (suc count) each = rw (every_passes test count (λ k below. each k (omega arith)), each count (omega arith))

pub one_fails : (test : ℕ → Bool) (count k : ℕ) → k < count → test k ≡ false → every test count ≡ false
unfolding every
one_fails test zero k below fails = absurd (omega arith)
one_fails test (suc count) k below fails = go (ℕ_discrete k count) (one_fails test count k)
  where
    go : Dec (k ≡ count) → (k < count → test k ≡ false → every test count ≡ false) → (every test count && test count) ≡ false
    go (yes same) earlier = rw (← same, fails) (and-false (every test k))
    go (no other) earlier = rw (earlier (omega arith) fails)

each_passes : (test : ℕ → Bool) (count : ℕ) → every test count ≡ true → (k : ℕ) → k < count → test k ≡ true
each_passes test count all k below = by_value (test k) refl
  where
    by_value : (value : Bool) → test k ≡ value → test k ≡ true
    by_value true passes = passes
    by_value false fails = absurd (false≢true (sym (one_fails test count k below fails) ∙ all))

-- tests that agree below `count` give the same
pub every_same : (one other : ℕ → Bool) (count : ℕ) → ((k : ℕ) → k < count → one k ≡ other k) → every one count ≡ every other count
unfolding every
every_same one other zero same = refl
every_same one other (suc count) same = ap₂ ◌&&◌ (every_same one other count (λ k below. same k (omega arith))) (same count (omega arith))

-- "kept" is said exactly when every slot lies within the band
pub kept_keeps : (profile : List ℤ) (rest : ℤ) (terms : List Term) (bands : List ℕ) → kept profile rest terms bands ≡ true → Keeps profile rest terms bands
kept_keeps profile rest terms bands is_kept = record {
  every_slot = λ slot below. leb-true (slot_error profile rest terms slot) (slot_band bands slot) (each_passes _ (slots_of profile) is_kept slot below);
}

pub keeps_kept : (profile : List ℤ) (rest : ℤ) (terms : List Term) (bands : List ℕ) → Keeps profile rest terms bands → kept profile rest terms bands ≡ true
keeps_kept profile rest terms bands keeps =
    every_passes _ (slots_of profile) (λ slot below. le-leb (slot_error profile rest terms slot) (slot_band bands slot) (keeps.every_slot slot below))
