-- The loop that compares: its invariant (`SoFar`) says that no slot passed is beyond its band, and what their greatest difference and the least that a band leaves are.
use mathlib.Core.Path.{◌≡◌, refl, sym, ap, ◌∙◌}
use mathlib.Core.List.{List}
use Prim.Native.Nat.{ℕ, zero, suc, ◌+◌, ◌-◌, ◌≤◌, ◌<◌, min, max}
use native.Mathlib.Numerals.{add-one}
use native.Mathlib.Omega.{arith}
use lib.Dec.{leb, ltb}
use lib.IntN.{ℤ}
use lib.ListN.{length}
use borrow.Author.Count.{below_none, below_more}
use borrow.Author.Tests.{le-leb, lt-leb, lt-ltb, le-ltb}
use Rattle.limits.proofs.Lowest.{lowest_is}
use Rattle.histogram.specs.Errors.{slot_band, greatest, least}
use Rattle.histogram.proofs.Kept.{every_passes, one_fails}
use Rattle.std.specs.Prelude.{Ok, Err}
use Rattle.verdict.specs.Inner.{difference, Compared}

-- the least of 40,000 and what a function gives for 0, 1 and on, `count` of them
unfoldable pub least_of : (ℕ → ℕ) → ℕ → ℕ
least_of f zero = 40000
least_of f (suc count) = min (least_of f count) (f count)

-- where none is above 40,000, it is the least of them
least_of_lem : (f : ℕ → ℕ) (count : ℕ) → 1 ≤ count → ((k : ℕ) → k < count → f k ≤ 40000) → least_of f count ≡ least f count
unfolding least_of least
least_of_lem f zero some small = absurd (omega arith)
least_of_lem f (suc zero) some small = omega (arith, small 0 (omega arith))
least_of_lem f (suc (suc count)) some small = ap (λ (l : ℕ). min l (f (suc count))) (least_of_lem f (suc count) (omega arith) (λ k below. small k (omega arith)))

module _ (profile restored : List ℤ) (bands : List ℕ) where
  abbrev left : ℕ → ℕ
  left place = slot_band bands place - difference profile restored place

  pub record SoFar (largest smallest slot : ℕ) : Type 0 where
    pub within : (k : ℕ) → k < slot → difference profile restored k ≤ slot_band bands k
    pub largest_is : largest ≡ greatest (difference profile restored) slot
    pub largest_small : largest ≤ 40000
    pub smallest_is : smallest ≡ least_of left slot
    pub smallest_small : smallest ≤ 40000

  pub begun : SoFar 0 40000 0
  unfolding greatest least_of
  begun = record {
    within = below_none (λ (k : ℕ). difference profile restored k ≤ slot_band bands k);
    largest_is = refl;
    largest_small = omega arith;
    smallest_is = refl;
    smallest_small = omega arith;
  }

  pub one_more : {largest smallest slot error : ℕ} → SoFar largest smallest slot → error ≡ difference profile restored slot → error ≤ slot_band bands slot → slot_band bands slot ≤ 40000
      → SoFar (max error largest) (min (slot_band bands slot - error) smallest) (slot + 1)
  unfolding greatest least_of
  one_more {largest} {smallest} {slot} {error} so_far is near small = record {
    within = below_more (λ (k : ℕ). difference profile restored k ≤ slot_band bands k) slot so_far.within (omega (arith, is));
    largest_is = rw (add-one slot) (omega (arith, so_far.largest_is, is));
    largest_small = omega (arith, so_far.largest_small);
    smallest_is = rw (add-one slot) (omega (arith, so_far.smallest_is, is));
    smallest_small = omega (arith, so_far.smallest_small);
  }

  pub beyond_band : {largest smallest slot error : ℕ} → SoFar largest smallest slot → slot < length profile → error ≡ difference profile restored slot → slot_band bands slot < error
      → Compared profile restored bands (Err (record { slot = slot }))
  beyond_band {slot = slot} so_far more is far = record {
    kept_is =
        sym
        (one_fails (λ k. leb (difference profile restored k) (slot_band bands k)) (length profile) slot more
        (lt-leb (difference profile restored slot) (slot_band bands slot) (omega (arith, is))));
    error_is = refl;
    margin_is = refl;
    slot_is =
        sym
        (lowest_is (λ k. ltb (slot_band bands k) (difference profile restored k)) (length profile) slot more
        (λ k below. le-ltb (slot_band bands k) (difference profile restored k) (so_far.within k below))
        (lt-ltb (slot_band bands slot) (difference profile restored slot) (omega (arith, is))));
  }

  pub all_within : {largest smallest : ℕ} → SoFar largest smallest (length profile) → 1 ≤ length profile → ((place : ℕ) → slot_band bands place ≤ 40000)
      → Compared profile restored bands (Ok (record { error = largest; margin = smallest }))
  all_within so_far some small = record {
    kept_is =
        sym
        (every_passes (λ k. leb (difference profile restored k) (slot_band bands k)) (length profile)
        (λ k below. le-leb (difference profile restored k) (slot_band bands k) (so_far.within k below)));
    error_is = so_far.largest_is;
    margin_is = so_far.smallest_is ∙ least_of_lem left (length profile) some (λ k below. omega (arith, small k));
    slot_is = refl;
  }
