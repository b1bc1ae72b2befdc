-- `bands::are_same` meets its contract. The invariant: the two are the same exactly where they are from `slot` on.
use mathlib.Core.Path.{◌≡◌}
use lib.ListN.{drop}
use Rattle.bands.specs.Bands.{same_bands}
use Rattle.bands.proofs.are_same.Given as goal

abbrev pub invariant-loop-slot : goal.invariant-loop-slot
invariant-loop-slot l = same_bands l.bands l.others ≡ same_bands (drop l.slot l.bands) (drop l.slot l.others)
