-- `bands::gather` meets its contract. The invariant: so many special slots are laid, and those among the slots that are left are the others.
use mathlib.Core.Path.{◌≡◌}
use mathlib.Core.List.{List}
use Prim.Native.Nat.{ℕ}
use lib.ListN.{drop}
use Rattle.limits.proofs.Laying.{LaidSoFar}
use Rattle.bands.specs.Bands.{slot_numbers_of, own_bands_of, specials_among}
use Rattle.bands.proofs.Among.{among_from}
use Rattle.bands.proofs.gather.Given as goal

-- the special slots among the slots before `slot` are laid
pub record GatheredSoFar (common : ℕ) (bands specials₀ own₀ specials own : List ℕ) (gathered slot : ℕ) : Type 0 where
  pub slots_laid : LaidSoFar (slot_numbers_of (specials_among common bands)) specials₀ specials gathered
  pub bands_laid : LaidSoFar (own_bands_of (specials_among common bands)) own₀ own gathered
  pub left : drop gathered (specials_among common bands) ≡ among_from common bands slot

abbrev pub invariant-loop-slot : goal.invariant-loop-slot
invariant-loop-slot l = GatheredSoFar l.common l.bands l.initial.specials l.initial.own l.specials l.own l.gathered l.slot
