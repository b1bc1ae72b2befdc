-- The calls that F-8's laws of answers speak of can be made: building accepts the joined profile of two that it accepts, of up to 256 slots each, whatever the common band within the limits, with the special slots among the bands that the slots bring along;
-- and it accepts a moved profile that stays in range, and a turned one, with the bands as they are.
use mathlib.Core.Path.{◌≡◌}
use mathlib.Core.Bool.{true}
use mathlib.Core.List.{List, ◌++◌}
use Prim.Native.Nat.{ℕ, ◌≤◌}
use native.Mathlib.Omega.{arith}
use lib.IntN.{ℤ, pos, ◌+ℤ◌, neg_ℤ}
use lib.ListN.{length, length-append, length-map}
use lib.Ieee.Bits.{is_true}
use lib.Pow.{pow_mono}
use borrow.Author.Tests.{le-ltb}
use Rattle.limits.proofs.Refusals.{none_of_two}
use Rattle.bands.specs.declared.SpecialSlot.{SpecialSlot}
use Rattle.bands.specs.Bands.{right_specials, slot_bands, specials_among}
use Rattle.bands.proofs.Bands.{bands_of_specials, specials_right_lem}
use Rattle.histogram.specs.declared.Term.{Term}
use Rattle.histogram.specs.Tree.{padded}
use Rattle.histogram.proofs.Powers.{padded_bound}
use Rattle.claims.specs.Best.{InRange}
use Rattle.build.specs.declared.BuiltSynopsis.{BuiltSynopsis}
use Rattle.build.specs.Building.{values_refusal, build_refusal}
use Rattle.build.proofs.Accepted.{values_accepted}
use Rattle.laws.specs.Profiles.{EqualPowerLengths, moved, turned}
use Rattle.laws.specs.Calls.{Answered}
use Rattle.laws.proofs.Joined.{each_of_both, joined_length, joined_in_range}
use Rattle.laws.proofs.Moved.{turned_in_range}
use Rattle.laws.proofs.Calls.{none_refused, answered_accepted, each_band, each_within}

module _ {first second : List ℤ} {rest : ℤ} {bands bands' : List ℕ} {one two : BuiltSynopsis} {terms terms' : List Term}
    (answered : Answered first rest bands one terms) (answered' : Answered second rest bands' two terms') (common : ℕ) where
  -- the special slots of the joined profile
  abbrev specials : List SpecialSlot
  specials = specials_among common (bands ++ bands')

  as_long : length (bands ++ bands') ≡ length (first ++ second)
  as_long = omega (arith, length-append first second, length-append bands bands', each_band answered, each_band answered')

  -- each slot goes by the band that it brings along
  pub each_band_brought : slot_bands (length (first ++ second)) common specials ≡ bands ++ bands'
  each_band_brought = rw (← as_long) (bands_of_specials common (bands ++ bands'))

  brought_right : right_specials (length (first ++ second)) common specials ≡ true
  brought_right = rw (← as_long) (is_true _ (specials_right_lem common (bands ++ bands') (each_of_both (λ band. band ≤ 40000) 0 bands bands' (each_within answered) (each_within answered'))))

  -- and nothing is refused, where the two have "up to 256" slots and memory is lent for 512
  pub joined_accepted : (powers : EqualPowerLengths first second) → powers.power ≤ 8 → common ≤ 40000 → (places numbers : ℕ) → 512 ≤ places → 12288 ≤ numbers
      → build_refusal (first ++ second) rest (pos common) specials places numbers ≡ 0
  joined_accepted powers few common_within places numbers destination_long scratch_long =
      let few_slots : length (first ++ second) ≤ 512 = omega (arith, joined_length powers, pow_mono {i = powers.power} {j = 8} few) in
      let some_slot : 1 ≤ length (first ++ second) = omega (arith, length-append first second, (answered_accepted answered).slots.some_slot) in
      rw (
        values_accepted (first ++ second) rest some_slot few_slots (joined_in_range (answered_accepted answered).in_range (answered_accepted answered').in_range),
        le-ltb 40000 common common_within,
        brought_right,
        le-ltb places (padded (length (first ++ second))) (omega (arith, padded_bound few_slots)),
        le-ltb numbers 12288 scratch_long,
      )

module _ {profile : List ℤ} {rest : ℤ} {bands : List ℕ} {answer : BuiltSynopsis} {terms : List Term} (answered : Answered profile rest bands answer terms) where
  -- another profile of as many slots, in range, is accepted with the same bands and memory
  like_accepted : (profile' : List ℤ) (rest' : ℤ) → length profile' ≡ length profile → InRange profile' rest'
      → build_refusal profile' rest' answered.band answered.specials answered.places answered.numbers ≡ 0
  like_accepted profile' rest' as_many in_range =
      let slots = (answered_accepted answered).slots in
      rw (values_accepted profile' rest' (omega (arith, slots.some_slot)) (omega (arith, slots.few_slots)) in_range, as_many)
      (none_of_two (values_refusal profile rest) _ (none_refused answered)).1

  pub moved_accepted : (number : ℤ) → InRange (moved number profile) (rest +ℤ number)
      → build_refusal (moved number profile) (rest +ℤ number) answered.band answered.specials answered.places answered.numbers ≡ 0
  moved_accepted number stays = like_accepted (moved number profile) (rest +ℤ number) (length-map profile _) stays

  pub turned_accepted : build_refusal (turned profile) (neg_ℤ rest) answered.band answered.specials answered.places answered.numbers ≡ 0
  turned_accepted = like_accepted (turned profile) (neg_ℤ rest) (length-map profile _) (turned_in_range (answered_accepted answered).in_range)
