-- What right special slots say: each lies between the bounds, has a band of 0 to 40,000 that is not the common one, and the others are behind it.
use mathlib.Core.Path.{◌≡◌, sym}
use mathlib.Core.Bool.{not, ◌&&◌, and_assoc}
use mathlib.Core.List.{List, [], ◌∷◌}
use Prim.Native.Nat.{ℕ, suc, ◌+◌, ◌<◌, ◌≤◌}
use native.Mathlib.Omega.{arith}
use lib.Dec.{T, leb, ltb, eqb, leb→le, le→leb, ltb→lt, lt→ltb, T_not}
use lib.ListN.{length}
use mir.Facts.{and_yes, yes_and}
use borrow.Author.Tests.{eq-eqb, ne_eqb}
use Rattle.bands.specs.declared.SpecialSlot.{SpecialSlot}
use Rattle.bands.specs.Inner.{right_here}
use Rattle.bands.specs.Bands.{right_from}

-- the test as a statement, from which the bounds and the list can be inferred
pub record RightFrom (first n common : ℕ) (specials : List SpecialSlot) : Type 0 where
  pub passes : T (right_from first n common specials)

pub none_right : (first n common : ℕ) → RightFrom first n common []
unfolding right_from
none_right first n common = record { passes = tt }

-- the first of them, and the others behind it
pub right_first : (first n common : ℕ) (special : SpecialSlot) (specials : List SpecialSlot)
    → right_from first n common (special ∷ specials) ≡ (right_here first n common special.slot special.band && right_from (suc special.slot) n common specials)
unfolding right_from
right_first first n common special specials = sym (simp and_assoc)

-- a special slot between the bounds with a band of its own, before others that are right behind it
pub right_before : {first n common : ℕ} (special : SpecialSlot) {specials : List SpecialSlot} → first ≤ special.slot → special.slot < n → special.band ≤ 40000
    → (special.band ≡ common → ⊥) → RightFrom (suc special.slot) n common specials → RightFrom first n common (special ∷ specials)
unfolding right_from
right_before {first} {n} {common} special from below within own right = record {
  passes =
      yes_and (leb first special.slot) _ (le→leb first special.slot from)
      (yes_and (ltb special.slot n) _ (lt→ltb special.slot n below)
      (yes_and (leb special.band 40000) _ (le→leb special.band 40000 within) (yes_and (not (eqb special.band common)) _ (rw (ne_eqb special.band common own) tt) right.passes)));
}

module _ {first n common : ℕ} {special : SpecialSlot} {specials : List SpecialSlot} (right : RightFrom first n common (special ∷ specials)) where
  first_is : (first ≤ special.slot) × (special.slot < n) × (special.band ≤ 40000) × (special.band ≡ common → ⊥) × RightFrom (suc special.slot) n common specials
  unfolding right_from
  first_is =
      let from = and_yes (leb first special.slot) _ right.passes in
      let below = and_yes (ltb special.slot n) _ from.1 in
      let within = and_yes (leb special.band 40000) _ below.1 in
      let own = and_yes (not (eqb special.band common)) _ within.1 in (
        leb→le first special.slot from.0,
        ltb→lt special.slot n below.0,
        leb→le special.band 40000 within.0,
        λ same. T_not (eqb special.band common) own.0 (rw (eq-eqb special.band common same) tt),
        record { passes = own.1 },
      )

  pub first_from : first ≤ special.slot
  first_from = first_is.0

  pub first_below : special.slot < n
  first_below = first_is.1

  pub first_within : special.band ≤ 40000
  first_within = first_is.2

  pub first_own : special.band ≡ common → ⊥
  first_own = first_is.3

  pub rest_right : RightFrom (suc special.slot) n common specials
  rest_right = first_is.4

  -- right from any bound up to the first slot
  pub right_from_lem : (bound : ℕ) → bound ≤ special.slot → RightFrom bound n common (special ∷ specials)
  right_from_lem bound low = right_before special low first_below first_within first_own rest_right

-- right from an earlier bound too
pub right_sooner : {first n common : ℕ} (specials : List SpecialSlot) → RightFrom first n common specials → (sooner : ℕ) → sooner ≤ first → RightFrom sooner n common specials
right_sooner {first} {n} {common} [] right sooner low = none_right sooner n common
right_sooner {first} {n} {common} (special ∷ specials) right sooner low = right_from_lem right sooner (omega (arith, first_from right))

-- slots that ascend strictly between two bounds are few
pub right_few : {first n common : ℕ} (specials : List SpecialSlot) → first ≤ n → RightFrom first n common specials → first + length specials ≤ n
right_few [] low right = omega arith
right_few (special ∷ specials) low right = omega (arith, first_from right, right_few specials (first_below right) (rest_right right))
