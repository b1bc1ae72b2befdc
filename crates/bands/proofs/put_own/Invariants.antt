-- `bands::put_own` meets its contract. The invariant: with the special slots from i on put over what is there now, every slot has what it is to have.
use mathlib.Core.Path.{◌≡◌}
use mathlib.Core.List.{List}
use Prim.Native.Nat.{ℕ}
use lib.ListN.{length, get_or}
use Rattle.bands.specs.Bands.{special_slots, band_at}
use Rattle.bands.proofs.Lent.{onwards}
use Rattle.bands.proofs.Right.{RightFrom}
use Rattle.bands.proofs.put_own.Given as goal

-- the special slots from i on are still to be put
pub record PutSoFar (specials own before now : List ℕ) (i : ℕ) : Type 0 where
  pub common : ℕ
  pub same_length : length now ≡ length before
  pub right : RightFrom 0 (length before) common (onwards specials own i)
  pub left : (slot : ℕ) → band_at (get_or now slot 0) (onwards specials own i) slot ≡ band_at (get_or before slot 0) (special_slots specials own) slot

abbrev pub invariant-loop-i : goal.invariant-loop-i
invariant-loop-i l = PutSoFar l.specials l.own l.initial.bands l.bands l.i
