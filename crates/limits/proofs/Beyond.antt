-- What follows where nothing lies beyond its limit: setpoints within ±20,000, and a band of 0 to 40,000.
use mathlib.Core.Path.{◌≡◌, refl, subst}
use mathlib.Core.Bool.{Bool, true, false, not, ◌||◌}
use mathlib.Core.List.{List, [], ◌∷◌}
use Prim.Native.Nat.{ℕ, zero, suc, ◌≤◌}
use native.Mathlib.Omega.{arith}
use lib.Dec.{T}
use lib.IntN.{ℤ, pos, negsuc, nat_abs}
use lib.ListN.{get_or}
use lib.Signed.{non_neg}
use borrow.Author.Tests.{ltb-false, le-ltb}
use Rattle.limits.specs.Limits.{beyond, outside_band, any_beyond}

-- every setpoint lies within ±20,000 where none lies beyond
pub within_all : (profile : List ℤ) → T (not (any_beyond profile)) → (k : ℕ) → nat_abs (get_or profile k (pos 0)) ≤ 20000
unfolding any_beyond
within_all [] none k = omega arith
within_all (setpoint ∷ profile) none k = by_test (beyond 20000 setpoint) refl none k (within_all profile)
  where
    by_test : (far : Bool) → beyond 20000 setpoint ≡ far → T (not (far || any_beyond profile)) → (k : ℕ)
        → (T (not (any_beyond profile)) → (j : ℕ) → nat_abs (get_or profile j (pos 0)) ≤ 20000) → nat_abs (get_or (setpoint ∷ profile) k (pos 0)) ≤ 20000
    by_test true is-far impossible k others = absurd impossible
    by_test false is-near rest zero others = ltb-false 20000 (nat_abs setpoint) is-near
    by_test false is-near rest (suc j) others = others rest j

-- and where all are within, none is beyond
pub none_beyond_range : (profile : List ℤ) → ((k : ℕ) → nat_abs (get_or profile k (pos 0)) ≤ 20000) → any_beyond profile ≡ false
unfolding any_beyond
none_beyond_range [] within = refl
none_beyond_range (setpoint ∷ profile) within = rw (le-ltb 20000 (nat_abs setpoint) (within 0)) (none_beyond_range profile (λ k. within (suc k)))

-- a band that is not refused
pub band_accepted : (band : ℤ) → outside_band band ≡ false → nat_abs band ≤ 40000
band_accepted (pos band) inside = ltb-false 40000 band inside
band_accepted (negsuc below) inside = absurd (subst T inside tt)

pub band_not_below : (band : ℤ) → outside_band band ≡ false → T (non_neg band)
band_not_below (pos band) inside = tt
band_not_below (negsuc below) inside = absurd (subst T inside tt)
