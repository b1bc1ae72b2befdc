-- Two profiles laid end to end: F-8's first law.
-- The slots of the first are the leaves below node 2 of the joined tree, those of the second the leaves below node 3; so it is what two trees side by side need, `trees_need` of the crate fewest.
use mathlib.Core.Path.{◌≡◌, sym, ap, ap₂, ◌∙◌}
use mathlib.Core.List.{List, [], ◌∷◌, ◌++◌}
use Prim.Native.Nat.{ℕ, zero, suc, ◌+◌, ◌-◌, ◌*◌, ◌^◌, ◌≤◌, ◌<◌}
use native.Mathlib.Omega.{arith}
use lib.Dec.{leb}
use lib.IntN.{ℤ, pos, nat_abs}
use lib.ListN.{length, get_or, length-append, get_or-append}
use lib.Seq.{get_or-append-add}
use borrow.Author.Tests.{lt-leb}
use Rattle.histogram.specs.Tree.{height, padded}
use Rattle.histogram.specs.Errors.{slots_of, setpoint_of, slot_band}
use Rattle.histogram.proofs.Powers.{height_of_power}
use Rattle.fewest.proofs.Joined.{trees_need}
use Rattle.claims.specs.Best.{InRange}
use Rattle.claims.specs.Inner.{lifted, distance, accepts, fewest_terms}
use Rattle.claims.proofs.Range.{read_within}
use Rattle.laws.specs.Numbers.{FewestTerms}
use Rattle.laws.specs.Profiles.{EqualPowerLengths, TogetherOrOneFewer}
use Rattle.laws.proofs.Numbers.{fewest_some, fewest_only}

module _ (profile : List ℤ) (power : ℕ) (slots_are : length profile ≡ 2 ^ power) where
  tree_height : height (length profile) ≡ power
  tree_height = ap height slots_are ∙ height_of_power power

  -- the leaf of a slot accepts what is within the slot's band
  leaf_accepts : (bands : List ℕ) (leaf slot v : ℕ) → slot < 2 ^ power → leaf ≡ 2 ^ power + slot
      → accepts profile bands leaf v ≡ leb (distance (lifted (setpoint_of profile slot)) v) (slot_band bands slot)
  leaf_accepts bands leaf slot v counts leaf_is =
      let its_slot : leaf - padded (length profile) ≡ slot = omega (arith, ap (λ (h : ℕ). 2 ^ h) tree_height) in
      rw (its_slot, lt-leb (slots_of profile) slot (omega arith))

-- what holds of every element of two lists, and of what stands for one past their ends, holds of every one of both together
pub each_of_both : {A : Type 0} (Holds : A → Type 0) (otherwise : A) (first second : List A)
    → ((k : ℕ) → Holds (get_or first k otherwise)) → ((k : ℕ) → Holds (get_or second k otherwise)) → (k : ℕ) → Holds (get_or (first ++ second) k otherwise)
each_of_both Holds otherwise [] second of_first of_second k = of_second k
each_of_both Holds otherwise (element ∷ first) second of_first of_second zero = of_first 0
each_of_both Holds otherwise (element ∷ first) second of_first of_second (suc k) = each_of_both Holds otherwise first second (λ j. of_first (suc j)) of_second k

pub joined_in_range : {first second : List ℤ} {rest : ℤ} → InRange first rest → InRange second rest → InRange (first ++ second) rest
joined_in_range {first} {second} in-first in-second = record {
  setpoints_within = λ slot counts. each_of_both (λ setpoint. nat_abs setpoint ≤ 20000) (pos 0) first second (read_within in-first) (read_within in-second) slot;
  rest_within = in-first.rest_within;
}

pub joined_length : {first second : List ℤ} (powers : EqualPowerLengths first second) → length (first ++ second) ≡ 2 ^ suc powers.power
joined_length {first} {second} powers = omega (arith, length-append first second, powers.first_length, powers.second_length)

module _ {first second : List ℤ} (powers : EqualPowerLengths first second) (bands bands' : List ℕ) (first-bands : length bands ≡ length first) where
  -- the slots of each
  abbrev width : ℕ
  width = 2 ^ powers.power

  -- the leaves below node 2 are those of the first profile
  first_below : (place v : ℕ) → place < width → accepts (first ++ second) (bands ++ bands') (2 * width + place) v ≡ accepts first bands (1 * width + place) v
  first_below place v inside =
      leaf_accepts (first ++ second) (suc powers.power) (joined_length powers) (bands ++ bands') (2 * width + place) place v (omega arith) (omega arith)
      ∙ ap₂ (λ (setpoint : ℤ) (band : ℕ). leb (distance (lifted setpoint) v) band)
      (get_or-append first second (pos 0) place (omega (arith, powers.first_length)))
      (get_or-append bands bands' 0 place (omega (arith, powers.first_length)))
      ∙ sym (leaf_accepts first powers.power powers.first_length bands (1 * width + place) place v inside (omega arith))

  -- and the leaves below node 3 those of the second
  second_below : (place v : ℕ) → place < width → accepts (first ++ second) (bands ++ bands') (3 * width + place) v ≡ accepts second bands' (1 * width + place) v
  second_below place v inside =
      leaf_accepts (first ++ second) (suc powers.power) (joined_length powers) (bands ++ bands') (3 * width + place) (width + place) v (omega arith) (omega arith)
      ∙ ap₂ (λ (setpoint : ℤ) (band : ℕ). leb (distance (lifted setpoint) v) band)
      (ap (λ (n : ℕ). get_or (first ++ second) (n + place) (pos 0)) (sym powers.first_length) ∙ get_or-append-add first second place (pos 0))
      (ap (λ (n : ℕ). get_or (bands ++ bands') (n + place) 0) (sym (first-bands ∙ powers.first_length)) ∙ get_or-append-add bands bands' place 0)
      ∙ sym (leaf_accepts second powers.power powers.second_length bands' (1 * width + place) place v inside (omega arith))

  -- so for the theory's numbers of fewest terms
  joined_needs : (rest : ℤ)
      → TogetherOrOneFewer (fewest_terms first rest bands) (fewest_terms second rest bands') (fewest_terms (first ++ second) rest (bands ++ bands'))
  joined_needs rest =
      rw (tree_height first powers.power powers.first_length, tree_height second powers.power powers.second_length, tree_height (first ++ second) (suc powers.power) (joined_length powers))
      (trees_need (accepts first bands) (accepts second bands') (accepts (first ++ second) (bands ++ bands')) 40000 powers.power first_below second_below (lifted rest))

-- "The joined profile needs as many terms as the two together, or exactly one fewer."
-- The first's list of bands has one for each slot, so that the second's begins at the second's slots.
pub joined_law : {first second : List ℤ} {rest : ℤ} {bands bands' : List ℕ} {fewest-first fewest-second fewest-joined : ℕ}
    → EqualPowerLengths first second → length bands ≡ length first → InRange first rest → InRange second rest
    → FewestTerms first rest bands fewest-first → FewestTerms second rest bands' fewest-second → FewestTerms (first ++ second) rest (bands ++ bands') fewest-joined
    → TogetherOrOneFewer fewest-first fewest-second fewest-joined
joined_law {rest = rest} {bands} {bands'} powers first-bands in-first in-second first-fewest second-fewest joined_fewest =
    rw (
      fewest_only first-fewest (fewest_some in-first),
      fewest_only second-fewest (fewest_some in-second),
      fewest_only joined_fewest (fewest_some (joined_in_range in-first in-second)),
    ) (joined_needs powers bands bands' first-bands rest)
