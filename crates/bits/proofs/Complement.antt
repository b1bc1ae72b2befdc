-- Two's complement in any width: a signed number is read back as it was written, and an unsigned one is written as it was read.
use mathlib.Core.Path.{◌≡◌, refl, ap, ◌∙◌}
use mathlib.Core.Bool.{Bool, true, false}
use Prim.Native.Nat.{ℕ, zero, suc, ◌-◌, ◌*◌, ◌^◌, ◌<◌, ◌≤◌}
use native.Mathlib.Omega.{arith}
use native.Mathlib.Nat.{two-pow-succ}
use lib.Dec.{ltb}
use lib.IntN.{ℤ, pos, negsuc}
use lib.Signed.{mag}
use borrow.Author.Tests.{ltb-true, ltb-false, lt-ltb, le-ltb}
use Rattle.bits.specs.Signed.{complement, signed_of}
use Rattle.bits.specs.Inner.{SignedBits}

module _ (width number : ℕ) where
  pub signed_from_zero : 2 * number < 2 ^ width → signed_of width number ≡ pos number
  signed_from_zero small = rw (lt-ltb (2 * number) (2 ^ width) small)

  pub signed_below_zero : 2 ^ width ≤ 2 * number → signed_of width number ≡ negsuc (2 ^ width - suc number)
  signed_below_zero large = rw (le-ltb (2 * number) (2 ^ width) large)

-- a number that a signed type holds is one of the type's bits: `SFits w16` bounds it by 2^15, so it is of `suc 15`
pub signed_bits : (width : ℕ) (number : ℤ) → mag number < 2 ^ width → SignedBits (suc width) number
signed_bits width number small = record { some = omega arith; small = omega (arith, two-pow-succ width) }

-- a width of some bits has an even number of numbers
halves : (width : ℕ) → 1 ≤ width → 2 ^ width ≡ 2 * 2 ^ (width - 1)
halves zero some = absurd (omega arith)
halves (suc width) some = let less : suc width - 1 ≡ width = omega arith in rw less (omega (arith, two-pow-succ width))

pub complement_reads_back : (width : ℕ) (number : ℤ) → SignedBits width number → signed_of width (complement width number) ≡ number
complement_reads_back width (pos number) fits = signed_from_zero width number fits.small
complement_reads_back width (negsuc below) fits =
    let even = halves width fits.some in
    signed_below_zero width (2 ^ width - suc below) (omega (arith, fits.small))
    ∙ ap negsuc (omega (arith, fits.small))

pub signed_writes_back : (width number : ℕ) → number < 2 ^ width → complement width (signed_of width number) ≡ number
signed_writes_back width number small = go (ltb (2 * number) (2 ^ width)) refl
  where
    go : (test : Bool) → ltb (2 * number) (2 ^ width) ≡ test → complement width (signed_of width number) ≡ number
    go true less = ap (complement width) (signed_from_zero width number (ltb-true (2 * number) (2 ^ width) less))
    go false not-less = ap (complement width) (signed_below_zero width number (ltb-false (2 * number) (2 ^ width) not-less)) ∙ omega arith

-- what stands for a signed number fits the width
pub complement_fits : (width : ℕ) (number : ℤ) → SignedBits width number → complement width number < 2 ^ width
complement_fits width (pos number) fits = omega (arith, fits.small)
complement_fits width (negsuc below) fits = omega (arith, fits.small)

-- and the signed number that one of the width stands for is of the width
pub signed_fits : (width number : ℕ) → 1 ≤ width → number < 2 ^ width → SignedBits width (signed_of width number)
signed_fits width number some small = go (ltb (2 * number) (2 ^ width)) refl
  where
    go : (test : Bool) → ltb (2 * number) (2 ^ width) ≡ test → SignedBits width (signed_of width number)
    go true less = let fits = ltb-true (2 * number) (2 ^ width) less in rw (signed_from_zero width number fits) (record { some = some; small = fits })
    go false not-less =
        let large = ltb-false (2 * number) (2 ^ width) not-less in
        rw (signed_below_zero width number large) (record { some = some; small = omega (arith) })
