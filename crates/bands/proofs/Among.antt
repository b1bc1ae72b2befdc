-- The special slots among the slots from one on: whether that slot is one of them, and what is left behind it. What a loop over all slots does in a turn.
use mathlib.Core.Path.{◌≡◌}
use mathlib.Core.List.{List, [], ◌∷◌}
use Prim.Native.Nat.{ℕ, ◌+◌, ◌≤◌, ◌<◌}
use native.Mathlib.Numerals.{add-one}
use lib.ListN.{length, get_or, drop, drop_of_length-le}
use lib.Seq.{drop-cons}
use borrow.Author.Tests.{eq-eqb, ne_eqb}
use Rattle.bands.specs.declared.SpecialSlot.{SpecialSlot}
use Rattle.bands.specs.Bands.{specials_from}

-- the special slots among the slots from one on
abbrev pub among_from : ℕ → List ℕ → ℕ → List SpecialSlot
among_from common bands slot = specials_from slot common (drop slot bands)

module _ (common : ℕ) (bands : List ℕ) (slot : ℕ) (inside : slot < length bands) where
  pub special_here : (get_or bands slot 0 ≡ common → ⊥) → among_from common bands slot ≡ record { slot = slot; band = get_or bands slot 0 } ∷ among_from common bands (slot + 1)
  unfolding specials_from
  special_here own = rw (drop-cons bands slot 0 inside, ne_eqb (get_or bands slot 0) common own, add-one slot)

  pub common_here : get_or bands slot 0 ≡ common → among_from common bands slot ≡ among_from common bands (slot + 1)
  unfolding specials_from
  common_here same = rw (drop-cons bands slot 0 inside, eq-eqb (get_or bands slot 0) common same, add-one slot)

pub none_left : (common : ℕ) (bands : List ℕ) (slot : ℕ) → length bands ≤ slot → among_from common bands slot ≡ []
unfolding specials_from
none_left common bands slot past = rw (drop_of_length-le bands {i = slot} past)
