-- How many places a stretch has: by the stretches of the children, in closed form, and at most 12,286 for 512 slots.
use mathlib.Core.Path.{◌≡◌, refl, sym, ap, ap₂, subst, ◌∙◌}
use Prim.Native.Nat.{ℕ, zero, suc, ◌+◌, ◌*◌, ◌-◌, ◌^◌, ◌≤◌, ◌<◌}
use native.Mathlib.Omega.{arith}
use native.Mathlib.Nat.{add-mul, mul-add, zero-add}
use Rattle.subtree.specs.Stretch.{own_places, places, Planned}

pub places_above : (height : ℕ) → places (suc height) ≡ own_places (suc height) + places height + places height
unfolding places
places_above height = refl

-- a stretch has its own places at least
pub own_first : (height : ℕ) → own_places height ≤ places height
unfolding places
own_first zero = omega arith
own_first (suc height) = omega arith

-- in closed form
pub places_are : (height : ℕ) → places height + 2 ≡ 2 ^ height * (2 * height + 6)
unfolding places
places_are zero = refl
places_are (suc height) =
    let power : ℕ = 2 ^ height in
    let twice : 2 ^ suc height ≡ power + power = omega arith in
    let more : 2 * suc height + 6 ≡ 2 * height + 6 + 2 = omega arith in
    let each : power * (2 * height + 6 + 2) ≡ power * (2 * height + 6) + power * 2 = mul-add power (2 * height + 6) 2 in
    let both : 2 ^ suc height * (2 * suc height + 6) ≡ power * (2 * height + 6 + 2) + power * (2 * height + 6 + 2) =
    ap₂ ◌*◌ twice more ∙ add-mul power power (2 * height + 6 + 2) in
    omega (arith, places_are height, each, both)

higher : (height more : ℕ) → places height ≤ places (more + height)
higher height zero = subst (λ (other : ℕ). places height ≤ places other) (sym (zero-add height)) (omega arith)
higher height (suc more) =
    let one : suc more + height ≡ suc (more + height) = omega arith in
    subst (λ (other : ℕ). places height ≤ places other) (sym one) (omega (arith, higher height more, places_above (more + height)))

pub places_within : (height : ℕ) → height ≤ 9 → places height ≤ 12286
unfolding places
places_within height in_tree =
    let all : 9 - height + height ≡ 9 = omega arith in
    subst (λ (other : ℕ). places height ≤ places other) all (higher height (9 - height))

-- the parts of a node's setpoints and stretch
pub planned : (height half child : ℕ) → 0 < height → height ≤ 9 → half ≡ 2 ^ (height - 1) → child ≡ places (height - 1)
    → Planned height half (4 * half + 2) (4 * half + 2 + child) (4 * half + 2 + child + child)
planned height half child some in_tree half_is child-is =
    let below : height ≡ suc (height - 1) = omega arith in
    let double : 2 ^ height ≡ 2 * 2 ^ (height - 1) = ap (λ (number : ℕ). 2 ^ number) below ∙ omega arith in
    let all : places height ≡ own_places height + places (height - 1) + places (height - 1) =
    ap places below ∙ places_above (height - 1) ∙ ap (λ (number : ℕ). own_places number + places (height - 1) + places (height - 1)) (sym below) in
    record {
      below = below;
      half_is = half_is;
      both_halves = omega arith;
      own_is = omega arith;
      middle_is = omega arith;
      end_is = omega arith;
      all_places = omega arith;
      few_places = omega (arith, places_within height in_tree);
    }
