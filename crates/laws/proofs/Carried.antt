-- Synopses carried from one profile to another: a map of values carries each synopsis over with as many terms, and where no slot's error grows on the way, with as great a margin.
-- Carried both ways, best synopses have the same numbers: `same_numbers`. Values are taken as numbers from 0 up, -20,000 as 0.
use mathlib.Core.Path.{◌≡◌, refl, sym, ap, ◌∙◌}
use mathlib.Core.Bool.{Bool, true, false, cond}
use mathlib.Core.List.{List, [], ◌∷◌, map}
use Prim.Native.Nat.{ℕ, zero, suc, ◌+◌, ◌/◌, ◌≤◌, ◌<◌}
use native.Mathlib.Omega.{arith}
use lib.Dec.{eqb}
use lib.IntN.{ℤ, nat_abs}
use lib.ListN.{length, length-map}
use Rattle.histogram.specs.declared.Term.{Term}
use Rattle.histogram.specs.Tree.{padded}
use Rattle.histogram.specs.Terms.{Valid, valid_from, term_or}
use Rattle.histogram.specs.Restored.{restored, restored_slot, path_nodes}
use Rattle.histogram.specs.Errors.{slots_of, setpoint_of, slot_error, slot_margin, least_margin}
use Rattle.histogram.proofs.Ascent.{ValidFrom, first_above, first_below, first_within, rest_valid, valid_before}
use Rattle.histogram.proofs.Margins.{least_grows}
use Rattle.histogram.proofs.Within.{restored_within}
use Rattle.claims.specs.Best.{InRange, KeepingSynopsis, Best}
use Rattle.claims.specs.Inner.{lifted, lowered, distance}
use Rattle.claims.proofs.Lifted.{lifted_within, lifted_lowered, lowered_lifted, lowered_within, distance_lifted}
use Rattle.laws.specs.Numbers.{BestNumbers}

-- terms with their values mapped, at the same nodes
abbrev mapped : (ℤ → ℤ) → List Term → List Term
mapped change terms = map (λ (term : Term). record { node = term.node; value = change term.value }) terms

module _ (change : ℤ → ℤ) where
  -- the value of the term at a node is mapped
  mapped_term : (otherwise : ℤ) (terms : List Term) (node : ℕ) → term_or (change otherwise) (mapped change terms) node ≡ change (term_or otherwise terms node)
  unfolding term_or
  mapped_term otherwise [] node = refl
  mapped_term otherwise (term ∷ terms) node = split (eqb term.node node) (mapped_term otherwise terms node)
    where
      split : (test : Bool) → term_or (change otherwise) (mapped change terms) node ≡ change (term_or otherwise terms node)
          → cond test (change term.value) (term_or (change otherwise) (mapped change terms) node) ≡ change (cond test term.value (term_or otherwise terms node))
      split true later = refl
      split false later = later

  -- and so is what is restored
  mapped_restored : (rest : ℤ) (terms : List Term) (count node : ℕ) → restored (change rest) (mapped change terms) count node ≡ change (restored rest terms count node)
  unfolding restored
  mapped_restored rest terms zero node = refl
  mapped_restored rest terms (suc count) node =
      ap (λ (above : ℤ). term_or above (mapped change terms) node) (mapped_restored rest terms count (node / 2)) ∙ mapped_term (restored rest terms count (node / 2)) terms node

  -- a valid list stays one where values within ±20,000 do
  mapped_valid : ((value : ℤ) → nat_abs value ≤ 20000 → nat_abs (change value) ≤ 20000)
      → {last end : ℕ} (terms : List Term) → ValidFrom last end terms → ValidFrom last end (mapped change terms)
  unfolding valid_from
  mapped_valid within [] valid = record { passes = tt }
  mapped_valid within (term ∷ terms) valid =
      valid_before (record { node = term.node; value = change term.value }) (first_above valid) (first_below valid) (within term.value (first_within valid))
      (mapped_valid within terms (rest_valid valid))

-- a map of numbers 0 to 40,000 that carries synopses of one profile to another: it takes the one's rest value to the other's, and in every slot the other's setpoint is no farther from a value's image than the one's is from the value
pub record Carries (image : ℕ → ℕ) (profile : List ℤ) (rest : ℤ) (profile' : List ℤ) (rest' : ℤ) : Type 0 where
  pub as_many_slots : length profile' ≡ length profile
  pub within : (value : ℕ) → value ≤ 40000 → image value ≤ 40000
  pub of_rest : image (lifted rest) ≡ lifted rest'
  pub no_farther : (slot value : ℕ) → slot < slots_of profile → value ≤ 40000
      → distance (lifted (setpoint_of profile' slot)) (image value) ≤ distance (lifted (setpoint_of profile slot)) value

module _ {image : ℕ → ℕ} {profile profile' : List ℤ} {rest rest' : ℤ} (carries : Carries image profile rest profile' rest')
    (in_range : InRange profile rest) (in-range' : InRange profile' rest') where
  -- the image of a value
  abbrev image_of : ℤ → ℤ
  image_of value = lowered (image (lifted value))

  -- the terms with the images of their values
  abbrev carried : List Term → List Term
  carried terms = mapped image_of terms

  image_within : (value : ℤ) → nat_abs value ≤ 20000 → nat_abs (image_of value) ≤ 20000
  image_within value within = lowered_within (image (lifted value)) (carries.within (lifted value) (lifted_within value within))

  rest_image : rest' ≡ image_of rest
  rest_image = sym (lowered_lifted rest' in-range'.rest_within) ∙ ap lowered (sym carries.of_rest)

  carried_valid : (terms : List Term) → Valid (length profile) terms → Valid (length profile') (carried terms)
  carried_valid terms valid = rw carries.as_many_slots (mapped_valid image_of image_within terms (record { passes = valid })).passes

  carried_as_many : (terms : List Term) → length (carried terms) ≡ length terms
  carried_as_many terms = length-map terms _

  -- no slot's error grows
  error_no_greater : (terms : List Term) → Valid (length profile) terms → (slot : ℕ) → slot < slots_of profile
      → slot_error profile' rest' (carried terms) slot ≤ slot_error profile rest terms slot
  error_no_greater terms valid slot counts =
      let setpoint : ℤ = setpoint_of profile slot in
      let setpoint' : ℤ = setpoint_of profile' slot in
      let value : ℤ = restored_slot (length profile) rest terms slot in
      let value_within : nat_abs value ≤ 20000 = restored_within rest terms (record { passes = valid }) in_range.rest_within _ _ in
      rw (carries.as_many_slots, rest_image, mapped_restored image_of rest terms (path_nodes (padded (length profile) + slot)) (padded (length profile) + slot))
      (omega (
        arith,
        distance_lifted setpoint value (in_range.setpoints_within slot counts) value_within,
        distance_lifted setpoint' (image_of value) (in-range'.setpoints_within slot (omega (arith, carries.as_many_slots))) (image_within value value_within),
        ap (λ (number : ℕ). distance (lifted setpoint') number) (lifted_lowered (image (lifted value))),
        carries.no_farther slot (lifted value) counts (lifted_within value value_within),
      ))

  module _ {bands : List ℕ} {terms : List Term} (synopsis : KeepingSynopsis profile rest bands terms) where
    -- so what keeps the bands keeps them when it is carried over
    carried_keeps : KeepingSynopsis profile' rest' bands (carried terms)
    carried_keeps = record {
      valid = carried_valid terms synopsis.valid;
      keeps = record {
        every_slot = λ slot counts.
            let counts_there : slot < slots_of profile = omega (arith, carries.as_many_slots) in
            omega (arith, error_no_greater terms synopsis.valid slot counts_there, synopsis.keeps.every_slot slot counts_there);
      };
    }

    -- with no smaller margin
    carried_margin : least_margin profile rest terms bands ≤ least_margin profile' rest' (carried terms) bands
    carried_margin =
        rw carries.as_many_slots
        (least_grows (slot_margin profile rest terms bands) (slot_margin profile' rest' (carried terms) bands) (slots_of profile)
        (λ slot counts. omega (arith, error_no_greater terms synopsis.valid slot counts)))

module _ {image image' : ℕ → ℕ} {profile profile' : List ℤ} {rest rest' : ℤ} (there : Carries image profile rest profile' rest') (back : Carries image' profile' rest' profile rest)
    (in_range : InRange profile rest) (in-range' : InRange profile' rest') {bands : List ℕ} {terms : List Term} (best : Best profile rest bands terms) where
  -- a best synopsis, carried over
  abbrev over : List Term
  over = carried there in_range in-range' terms

  over_keeps : KeepingSynopsis profile' rest' bands over
  over_keeps = carried_keeps there in_range in-range' best.synopsis

  over_as_many : length over ≡ length terms
  over_as_many = carried_as_many there in_range in-range' terms

  over_margin : least_margin profile rest terms bands ≤ least_margin profile' rest' over bands
  over_margin = carried_margin there in_range in-range' best.synopsis

  -- any other, carried back, is no shorter, and as short it has no greater margin
  module _ (other : List Term) (keeping : KeepingSynopsis profile' rest' bands other) where
    none_shorter : length over ≤ length other
    none_shorter =
        omega (arith, over_as_many, carried_as_many back in-range' in_range other, best.fewest (carried back in-range' in_range other) (carried_keeps back in-range' in_range keeping))

    none_greater : length other ≡ length over → least_margin profile' rest' other bands ≤ least_margin profile rest terms bands
    none_greater as_short =
        omega (
          arith,
          carried_margin back in-range' in_range keeping,
          best.greatest_margin (carried back in-range' in_range other) (carried_keeps back in-range' in_range keeping)
              (omega (arith, over_as_many, carried_as_many back in-range' in_range other)),
        )

  -- so it is a best one, and has the same margin
  over_best : Best profile' rest' bands over
  over_best = record {
    synopsis = over_keeps;
    fewest = none_shorter;
    greatest_margin = λ other keeping as_short. omega (arith, none_greater other keeping as_short, over_margin);
  }

  over_same_margin : least_margin profile' rest' over bands ≡ least_margin profile rest terms bands
  over_same_margin = omega (arith, none_greater over over_keeps refl, over_margin)

-- best synopses have the same numbers where synopses are carried both ways
pub same_numbers : {image image' : ℕ → ℕ} {profile profile' : List ℤ} {rest rest' : ℤ} {bands : List ℕ} {count margin : ℕ}
    → Carries image profile rest profile' rest' → Carries image' profile' rest' profile rest → InRange profile rest → InRange profile' rest'
    → BestNumbers profile rest bands count margin → BestNumbers profile' rest' bands count margin
same_numbers there back in_range in-range' numbers = record {
  terms = over there back in_range in-range' numbers.best;
  best = over_best there back in_range in-range' numbers.best;
  count_is = over_as_many there back in_range in-range' numbers.best ∙ numbers.count_is;
  margin_is = over_same_margin there back in_range in-range' numbers.best ∙ numbers.margin_is;
}
