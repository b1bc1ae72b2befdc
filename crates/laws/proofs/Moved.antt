-- A profile moved, and a profile turned: F-8's second and third law.
-- Values are not merely moved with the setpoints: a moved value can lie beyond ±20,000. It is cut there, and no setpoint is farther from the cut value, since the moved setpoints are all in range.
use mathlib.Core.Path.{◌≡◌, refl, sym, ap, ◌∙◌}
use mathlib.Core.List.{List, [], ◌∷◌, map}
use Prim.Native.Nat.{ℕ, zero, suc, ◌+◌, ◌-◌, ◌≤◌, ◌<◌, min}
use native.Mathlib.Omega.{arith}
use lib.IntN.{ℤ, pos, negsuc, ◌+ℤ◌, neg_ℤ, nat_abs}
use lib.ListN.{length, length-map, get_or-map}
use Rattle.histogram.specs.Errors.{slots_of, setpoint_of}
use Rattle.verdict.proofs.Differences.{turned_bound}
use Rattle.claims.specs.Best.{InRange}
use Rattle.claims.specs.Inner.{lifted}
use Rattle.claims.proofs.Lifted.{lifted_within, size_of_difference, lifted_difference}
use Rattle.claims.proofs.Range.{read_within}
use Rattle.laws.specs.Numbers.{BestNumbers}
use Rattle.laws.specs.Profiles.{moved, turned}
use Rattle.laws.proofs.Carried.{Carries, same_numbers}

-- a profile and rest value that lie higher by a number than others, slot by slot
record Higher (number : ℕ) (profile : List ℤ) (rest : ℤ) (profile' : List ℤ) (rest' : ℤ) : Type 0 where
  pub as_many_slots : length profile' ≡ length profile
  pub rest_higher : lifted rest' ≡ lifted rest + number
  pub each_higher : (slot : ℕ) → slot < slots_of profile → lifted (setpoint_of profile' slot) ≡ lifted (setpoint_of profile slot) + number

-- up: the number is added, and what passes 40,000 is cut there
carries_up : {number : ℕ} {profile profile' : List ℤ} {rest rest' : ℤ} → Higher number profile rest profile' rest' → InRange profile' rest'
    → Carries (λ value. min (value + number) 40000) profile rest profile' rest'
carries_up {profile' = profile'} {rest' = rest'} higher in_range = record {
  as_many_slots = higher.as_many_slots;
  within = λ value within. omega arith;
  of_rest = omega (arith, higher.rest_higher, lifted_within rest' in_range.rest_within);
  no_farther = λ slot value counts within.
      let stays = in_range.setpoints_within slot (omega (arith, higher.as_many_slots)) in
      omega (arith, higher.each_higher slot counts, lifted_within (setpoint_of profile' slot) stays);
}

-- down: it is taken off, down to 0
carries_down : {number : ℕ} {profile profile' : List ℤ} {rest rest' : ℤ} → Higher number profile rest profile' rest' → Carries (λ value. value - number) profile' rest' profile rest
carries_down higher = record {
  as_many_slots = sym higher.as_many_slots;
  within = λ value within. omega arith;
  of_rest = omega (arith, higher.rest_higher);
  no_farther = λ slot value counts within. omega (arith, higher.each_higher slot (omega (arith, higher.as_many_slots)));
}

-- a profile and rest value that lie opposite to others, slot by slot
record Opposite (profile : List ℤ) (rest : ℤ) (profile' : List ℤ) (rest' : ℤ) : Type 0 where
  pub as_many_slots : length profile' ≡ length profile
  pub rest_opposite : lifted rest + lifted rest' ≡ 40000
  pub each_opposite : (slot : ℕ) → slot < slots_of profile → lifted (setpoint_of profile slot) + lifted (setpoint_of profile' slot) ≡ 40000

carries_across : {profile profile' : List ℤ} {rest rest' : ℤ} → Opposite profile rest profile' rest' → Carries (λ value. 40000 - value) profile rest profile' rest'
carries_across opposite = record {
  as_many_slots = opposite.as_many_slots;
  within = λ value within. omega arith;
  of_rest = omega (arith, opposite.rest_opposite);
  no_farther = λ slot value counts within. omega (arith, opposite.each_opposite slot counts);
}

-- and the other way round
opposite_back : {profile profile' : List ℤ} {rest rest' : ℤ} → Opposite profile rest profile' rest' → Opposite profile' rest' profile rest
opposite_back opposite = record {
  as_many_slots = sym opposite.as_many_slots;
  rest_opposite = omega (arith, opposite.rest_opposite);
  each_opposite = λ slot counts. omega (arith, opposite.each_opposite slot (omega (arith, opposite.as_many_slots)));
}

-- a sum that stays in range lies higher by a number that is not negative, and lower by the size of one that is
sum_higher : (value : ℤ) (number : ℕ) → nat_abs value ≤ 20000 → lifted (value +ℤ pos number) ≡ lifted value + number
sum_higher (pos a) number within = omega arith
sum_higher (negsuc a) number within = omega (arith, lifted_difference number (suc a) (omega arith))

sum_lower : (value : ℤ) (number : ℕ) → nat_abs (value +ℤ negsuc number) ≤ 20000 → lifted value ≡ lifted (value +ℤ negsuc number) + suc number
sum_lower (pos a) number within = sym (lifted_difference a (suc number) (omega (arith, size_of_difference a (suc number))))
sum_lower (negsuc a) number within = omega arith

opposite_sign : (value : ℤ) → nat_abs value ≤ 20000 → lifted value + lifted (neg_ℤ value) ≡ 40000
opposite_sign (pos zero) within = refl
opposite_sign (pos (suc a)) within = omega arith
opposite_sign (negsuc a) within = omega arith

-- the setpoint of a slot of a profile whose setpoints are changed
changed_at : (change : ℤ → ℤ) (profile : List ℤ) (slot : ℕ) → slot < length profile → setpoint_of (map change profile) slot ≡ change (setpoint_of profile slot)
changed_at change [] slot counts = absurd (omega arith)
changed_at change (setpoint ∷ profile) zero counts = refl
changed_at change (setpoint ∷ profile) (suc slot) counts = changed_at change profile slot (omega arith)

-- the moved profile lies higher, and what is moved down lies lower
moved_higher : (number : ℕ) {profile : List ℤ} {rest : ℤ} → InRange profile rest → Higher number profile rest (moved (pos number) profile) (rest +ℤ pos number)
moved_higher number {profile} {rest} in_range = record {
  as_many_slots = length-map profile _;
  rest_higher = sum_higher rest number in_range.rest_within;
  each_higher = λ slot counts. ap lifted (changed_at (λ setpoint. setpoint +ℤ pos number) profile slot counts) ∙ sum_higher (setpoint_of profile slot) number (in_range.setpoints_within slot counts);
}

moved_lower : (number : ℕ) {profile : List ℤ} {rest : ℤ} → InRange (moved (negsuc number) profile) (rest +ℤ negsuc number)
    → Higher (suc number) (moved (negsuc number) profile) (rest +ℤ negsuc number) profile rest
moved_lower number {profile} {rest} in_range = record {
  as_many_slots = sym (length-map profile _);
  rest_higher = sum_lower rest number in_range.rest_within;
  each_higher = λ slot counts.
      let same : setpoint_of (moved (negsuc number) profile) slot ≡ setpoint_of profile slot +ℤ negsuc number =
      changed_at (λ setpoint. setpoint +ℤ negsuc number) profile slot (omega (arith, length-map profile (λ setpoint. setpoint +ℤ negsuc number))) in
      rw same (sum_lower (setpoint_of profile slot) number (rw same at (in_range.setpoints_within slot counts)));
}

-- "Adding one number to all setpoints and the rest value, where all stay in range, leaves the term count and the least margin as they were."
pub moved_law : (number : ℤ) {profile : List ℤ} {rest : ℤ} {bands : List ℕ} {count margin : ℕ}
    → InRange profile rest → InRange (moved number profile) (rest +ℤ number)
    → BestNumbers profile rest bands count margin → BestNumbers (moved number profile) (rest +ℤ number) bands count margin
moved_law (pos number) in_range stays =
    let higher = moved_higher number in_range in
    same_numbers (carries_up higher stays) (carries_down higher) in_range stays
moved_law (negsuc number) in_range stays =
    let higher = moved_lower number stays in
    same_numbers (carries_down higher) (carries_up higher in_range) in_range stays

turned_opposite : {profile : List ℤ} {rest : ℤ} → InRange profile rest → Opposite profile rest (turned profile) (neg_ℤ rest)
turned_opposite {profile} {rest} in_range = record {
  as_many_slots = length-map profile neg_ℤ;
  rest_opposite = opposite_sign rest in_range.rest_within;
  each_opposite = λ slot counts. rw (changed_at neg_ℤ profile slot counts) (opposite_sign (setpoint_of profile slot) (in_range.setpoints_within slot counts));
}

-- turned, all stay in range
pub turned_in_range : {profile : List ℤ} {rest : ℤ} → InRange profile rest → InRange (turned profile) (neg_ℤ rest)
turned_in_range {profile} {rest} in_range = record {
  setpoints_within = λ slot counts. rw (get_or-map neg_ℤ profile slot (pos 0), turned_bound (setpoint_of profile slot)) (read_within in_range slot);
  rest_within = rw (turned_bound rest) in_range.rest_within;
}

-- "So does turning all signs."
pub turned_law : {profile : List ℤ} {rest : ℤ} {bands : List ℕ} {count margin : ℕ}
    → InRange profile rest → BestNumbers profile rest bands count margin → BestNumbers (turned profile) (neg_ℤ rest) bands count margin
turned_law in_range =
    let opposite = turned_opposite in_range in
    same_numbers (carries_across opposite) (carries_across (opposite_back opposite)) in_range (turned_in_range in_range)
