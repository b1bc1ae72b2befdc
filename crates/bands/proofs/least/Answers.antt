use mathlib.Core.Path.{◌≡◌, refl}
use mathlib.Core.Bool.{Bool, true, false}
use mathlib.Core.List.{List}
use Prim.Native.Nat.{ℕ, zero, suc, ◌+◌, ◌≤◌, ◌<◌, min}
use native.Mathlib.Omega.{arith}
use lib.Dec.{ltb}
use lib.ListN.{length, get_or}
use borrow.Author.Count.{below_more}
use borrow.Author.Tests.{ltb-true, ltb-false}
use Rattle.bands.specs.Inner.{Least}
use Rattle.bands.proofs.least.Goals as goal

first_alone : (bands : List ℕ) → Least bands 1 (get_or bands 0 0)
first_alone bands = record { none_less = of_first; slot = 0; within = omega arith; is_its_band = refl }
  where
    of_first : (slot : ℕ) → slot < 1 → get_or bands 0 0 ≤ get_or bands slot 0
    of_first zero first = omega arith
    of_first (suc slot) first = absurd (omega arith)

one_more : {bands : List ℕ} {slot least : ℕ} → Least bands slot least → Least bands (slot + 1) (min least (get_or bands slot 0))
one_more {bands} {slot} {least} so_far = split (ltb (get_or bands slot 0) least) refl
  where
    split : (less : Bool) → ltb (get_or bands slot 0) least ≡ less → Least bands (slot + 1) (min least (get_or bands slot 0))
    split true is = record {
      none_less = below_more _ slot (λ k before. omega (arith, so_far.none_less k before)) (omega arith);
      slot = slot;
      within = omega arith;
      is_its_band = omega (arith, ltb-true (get_or bands slot 0) least is);
    }
    split false is = record {
      none_less = below_more _ slot (λ k before. omega (arith, so_far.none_less k before)) (omega arith);
      slot = so_far.slot;
      within = omega (arith, so_far.within);
      is_its_band = omega (arith, so_far.is_its_band, ltb-false (get_or bands slot 0) least is);
    }

pub loop-slot-init : goal.loop-slot-init
loop-slot-init c = first_alone c.args.bands.now

pub loop-slot-preserved : goal.loop-slot-preserved
loop-slot-preserved c = rw c.min-least.ensures (one_more c.loop-slot.invariant)

pub returns : goal.returns
returns c =
    let all : c.loop-slot.slot ≡ length c.args.bands.now = omega arith in
    rw all at c.loop-slot.invariant
