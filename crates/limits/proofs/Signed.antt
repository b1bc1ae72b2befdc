-- Signed numbers as a function sees them: a number in a local or a slice is the number, also after it was widened or narrowed,
-- and its magnitude is reached by turning the sign.
use mathlib.Core.Path.{◌≡◌, ap, subst}
use mathlib.Core.Bool.{true, false}
use Prim.Native.Nat.{ℕ, zero, suc, ◌<◌, ◌≤◌, ◌^◌}
use native.Mathlib.Omega.{arith}
use lib.Dec.{T, leb}
use lib.IntN.{ℤ, pos, negsuc, neg_ℤ, ◌-ℤ◌, nat_abs, +ℤ_idl}
use lib.Signed.{mag, lt_z, non_neg}
use borrow.Author.Tests.{ltb-true}
use mir.Syntax.{Width, w16, w32, w64}
use mir.Val.{SFits, hbits, to_z, of_z}
use mir.Facts.{to_z-of_z, sfits_widen}
use mir.ValLaws.{to_z_pos}

-- a number of one width, read back after it was widened to another
pub widened_to : (narrow wide : Width) {z : ℤ} → T (leb (hbits narrow) (hbits wide)) → SFits narrow z → to_z wide (of_z wide (to_z narrow (of_z narrow z))) ≡ z
widened_to narrow wide wider f = rw (to_z-of_z f, to_z-of_z (sfits_widen wider f))

pub widened : {z : ℤ} → SFits w32 z → to_z w64 (of_z w64 (to_z w32 (of_z w32 z))) ≡ z
widened f = widened_to w32 w64 tt f

-- a number below 0, its sign turned
pub turned : (z : ℤ) → lt_z z (pos 0) ≡ true → pos 0 -ℤ z ≡ pos (nat_abs z)
turned (pos n) e = absurd (omega (arith, ltb-true n 0 e))
turned (negsuc n) e = ap pos (omega arith)

pub turned_fits : (z : ℤ) → lt_z z (pos 0) ≡ true → SFits w32 z → SFits w64 (pos 0 -ℤ z)
turned_fits (pos n) e f = absurd (omega (arith, ltb-true n 0 e))
turned_fits (negsuc n) e f = let b = f.sfits in record { sfits = omega arith }

-- a natural number that fits, its sign turned
pub negative_is : (width : Width) (n : ℕ) → n < 2 ^ hbits width → pos 0 -ℤ to_z width n ≡ neg_ℤ (pos n)
negative_is width n small = rw (to_z_pos width n small) (+ℤ_idl (neg_ℤ (pos n)))

pub negative_fits : (width : Width) (n : ℕ) → n < 2 ^ hbits width → SFits width (pos 0 -ℤ to_z width n)
negative_fits width n small = rw (negative_is width n small) (fits n small)
  where
    fits : (n : ℕ) → n < 2 ^ hbits width → SFits width (neg_ℤ (pos n))
    fits zero small = record { sfits = small }
    fits (suc n) small = record { sfits = omega arith }

pub not_below : (z : ℤ) → lt_z z (pos 0) ≡ false → T (non_neg z)
not_below (pos n) e = tt
not_below (negsuc n) e = subst T e tt

-- an element of a slice of 16-bit numbers, as it is read: `c.x.given` of a copy `let x = s[i]`
pub element : (z : ℤ) → mag z < 2 ^ 15 → to_z w16 (of_z w16 z) ≡ z
element z h = to_z-of_z {w = w16} (record { sfits = h })

-- it fits 32 bits, and read there it is the element
pub wider_fits : (z : ℤ) → mag z < 2 ^ 15 → SFits w32 (to_z w16 (of_z w16 z))
wider_fits z small = rw (element z small) (sfits_widen {w = w16} tt (record { sfits = small }))

pub wider : (z : ℤ) → mag z < 2 ^ 15 → to_z w32 (of_z w32 (to_z w16 (of_z w16 z))) ≡ z
wider z small = widened_to w16 w32 tt (record { sfits = small })

-- a value within ±20,000 fits 16 bits
pub within_fits : (z : ℤ) → nat_abs z ≤ 20000 → SFits w16 z
within_fits (pos n) small = record { sfits = omega arith }
within_fits (negsuc n) small = record { sfits = omega arith }

-- one within ±40,000 fits 32 bits
pub fits_32 : (z : ℤ) → nat_abs z ≤ 40000 → SFits w32 z
fits_32 (pos n) small = record { sfits = omega arith }
fits_32 (negsuc n) small = record { sfits = omega arith }

-- a value within ±20,000 also as it stands in 32 bits, and read there it is the value
pub narrower_fits : {z : ℤ} → SFits w32 z → nat_abs z ≤ 20000 → SFits w16 (to_z w32 (of_z w32 z))
narrower_fits {z} fits within = rw (to_z-of_z fits) (within_fits z within)

pub narrower : {z : ℤ} → SFits w32 z → nat_abs z ≤ 20000 → to_z w16 (of_z w16 (to_z w32 (of_z w32 z))) ≡ z
narrower {z} fits within = rw (to_z-of_z fits, to_z-of_z (within_fits z within))
