use mathlib.Core.Path.{◌≡◌, sym, ap, ◌∙◌}
use mathlib.Core.List.{List, ◌∷◌, map}
use Prim.Native.Nat.{ℕ, suc, ◌+◌, ◌<◌}
use native.Mathlib.Numerals.{add-one}
use native.Mathlib.Omega.{arith}
use lib.ListN.{length, get_or, drop, set, length-drop, length-map, get_or-map}
use lib.Seq.{drop-cons}
use Rattle.limits.proofs.Laying.{one_more_laid, all_laid}
use Rattle.bands.specs.declared.SpecialSlot.{SpecialSlot}
use Rattle.bands.specs.Bands.{slot_numbers_of, own_bands_of, specials_among}
use Rattle.bands.specs.Inner.{Room}
use Rattle.bands.proofs.Among.{among_from, special_here, common_here, none_left}
use Rattle.bands.proofs.gather.Goals as goal
use Rattle.bands.proofs.gather.Goals.{then-band-common, else-band-common}
use Rattle.bands.proofs.gather.Invariants.{GatheredSoFar}

-- what stands at the place from which a list goes on with it
module _ (specials : List SpecialSlot) (place : ℕ) {special : SpecialSlot} {others : List SpecialSlot} (onwards : drop place specials ≡ special ∷ others) where
  some_left : place < length specials
  some_left = omega (arith, length-drop place specials, ap (λ (l : List SpecialSlot). length l) onwards)

  taken_apart : get_or specials place special ∷ drop (suc place) specials ≡ special ∷ others
  taken_apart = sym (drop-cons specials place special some_left) ∙ onwards

  others_left : drop (place + 1) specials ≡ others
  others_left = let apart = taken_apart in rw (add-one place) (cc)

  number_there : (number : SpecialSlot → ℕ) → get_or (map number specials) place (number special) ≡ number special
  number_there number = let apart = taken_apart in get_or-map number specials place special ∙ ap number (cc)

module _ {common : ℕ} {bands specials₀ own₀ specials own : List ℕ} {gathered slot : ℕ} (so_far : GatheredSoFar common bands specials₀ own₀ specials own gathered slot) (more : slot < length bands) where
  next_is : (get_or bands slot 0 ≡ common → ⊥) → drop gathered (specials_among common bands) ≡ record { slot = slot; band = get_or bands slot 0 } ∷ among_from common bands (slot + 1)
  next_is differs = so_far.left ∙ special_here common bands slot more differs

  next_inside : (get_or bands slot 0 ≡ common → ⊥) → gathered < length (specials_among common bands)
  next_inside differs = some_left (specials_among common bands) gathered (next_is differs)

  one_more_gathered : (get_or bands slot 0 ≡ common → ⊥) → Room (specials_among common bands) bands specials₀ own₀
      → GatheredSoFar common bands specials₀ own₀ (set specials gathered slot) (set own gathered (get_or bands slot 0)) (gathered + 1) (slot + 1)
  one_more_gathered differs room =
      let all = specials_among common bands in
      let next = next_is differs in
      let inside = next_inside differs in
      let slots-long = length-map all (λ (special : SpecialSlot). special.slot) in
      let bands_long = length-map all (λ (special : SpecialSlot). special.band) in
      record {
        slots_laid =
            rw (number_there all gathered next (λ special. special.slot)) at
            (one_more_laid (slot_numbers_of all) specials₀ specials gathered slot (omega (arith, room.for_slots)) so_far.slots_laid (omega arith));
        bands_laid =
            rw (number_there all gathered next (λ special. special.band)) at
            (one_more_laid (own_bands_of all) own₀ own gathered (get_or bands slot 0) (omega (arith, room.for_bands)) so_far.bands_laid (omega arith));
        left = others_left all gathered next;
      }

  none_gathered : get_or bands slot 0 ≡ common → GatheredSoFar common bands specials₀ own₀ specials own gathered (slot + 1)
  none_gathered same = record {
    slots_laid = so_far.slots_laid;
    bands_laid = so_far.bands_laid;
    left = so_far.left ∙ common_here common bands slot more same;
  }

pub bounds-specials-gathered : goal.bounds-specials-gathered
bounds-specials-gathered c = omega (arith, next_inside c.loop-slot.invariant c.loop-slot-test.true c.if-band-common.true, c.loop-slot.invariant.slots_laid.same_length, c.requires.for_slots)

pub bounds-own-gathered : goal.bounds-own-gathered
bounds-own-gathered c = omega (arith, next_inside c.loop-slot.invariant c.loop-slot-test.true c.if-band-common.true, c.loop-slot.invariant.bands_laid.same_length, c.requires.for_bands)

pub loop-slot-preserved : goal.loop-slot-preserved
loop-slot-preserved c =
    let in-loop = c in
    let so_far = in-loop.loop-slot.invariant in
    let more = in-loop.loop-slot-test.true in
    elim c.if-band-common.branch [
      | then-band-common special ↦ rw (special.specials-is, special.own-is, special.gathered-is) (one_more_gathered so_far more special.if-band-common.true in-loop.requires)
      | else-band-common same ↦ rw (same.specials-is, same.own-is, same.gathered-is) (none_gathered so_far more same.if-band-common.false)
    ]

pub returns : goal.returns
returns c =
    let args = c.args in
    let all = specials_among args.common args.bands.now in
    let loop = c.loop-slot in
    let so_far = loop.invariant in
    let slots-long = length-map all (λ (special : SpecialSlot). special.slot) in
    let bands_long = length-map all (λ (special : SpecialSlot). special.band) in
    let none : length (drop loop.gathered all) ≡ 0 =
    ap (λ (l : List SpecialSlot). length l) (so_far.left ∙ none_left args.common args.bands.now loop.slot c.loop-slot-test.false) in
    let done = length-drop loop.gathered all in
    record {
      slots_laid = all_laid (slot_numbers_of all) args.specials.now loop.specials loop.gathered so_far.slots_laid (omega arith);
      bands_laid = all_laid (own_bands_of all) args.own.now loop.own loop.gathered so_far.bands_laid (omega arith);
    }
