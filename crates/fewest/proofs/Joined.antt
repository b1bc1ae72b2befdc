-- Two trees of two children each and of one height, laid side by side under one root, need as many terms as the two by themselves, or exactly one fewer.
-- What a subtree costs depends on what its leaves accept and not on where it stands: `transplanted`. A term at the new root saves each of the two at most one term, and is one term more.
use mathlib.Core.Path.{◌≡◌, ap}
use mathlib.Core.Bool.{Bool}
use mathlib.Core.Logic.{◌⊎◌, inl, inr}
use Prim.Native.Nat.{ℕ, zero, suc, ◌+◌, ◌*◌, ◌^◌, ◌≤◌, ◌<◌}
use native.Mathlib.Nat.{mul-le-mul_right}
use native.Mathlib.Decide.{ℕ_discrete}
use native.Mathlib.Omega.{arith}
use Rattle.fewest.specs.Node.{missed, best_value, cheapest}
use Rattle.fewest.specs.Tree.{binary, total}
use Rattle.fewest.specs.Cost.{cost, fewest}
use Rattle.fewest.proofs.Total.{total_same}
use Rattle.fewest.proofs.Best.{best_within, best_costs_least}
use Rattle.fewest.proofs.Wider.{cheaper_cheapest}

-- where every value costs the same, so does the cheapest way
same_cheapest : (top : ℕ) (one other : ℕ → ℕ) → ((v : ℕ) → one v ≡ other v) → (v : ℕ) → cheapest top one v ≡ cheapest top other v
same_cheapest top one other same v =
    omega (arith, cheaper_cheapest top one other (λ w. omega (arith, same w)) v, cheaper_cheapest top other one (λ w. omega (arith, same w)) v)

-- a leaf below a child, by its place below the node
child_leaf : (node c width place : ℕ) → node * (2 * width) + (c * width + place) ≡ (2 * node + c) * width + place
child_leaf node c width place = omega arith

-- a subtree of a height costs the same below two nodes of two trees where their leaves accept the same, place by place
transplanted : (accepts elsewhere : ℕ → ℕ → Bool) (top height node other : ℕ)
    → ((place v : ℕ) → place < 2 ^ height → accepts (node * 2 ^ height + place) v ≡ elsewhere (other * 2 ^ height + place) v)
    → (v : ℕ) → cost binary accepts top height node v ≡ cost binary elsewhere top height other v
unfolding cost binary
transplanted accepts elsewhere top zero node other same v =
    let leaf : (n : ℕ) → n * 1 + 0 ≡ n = λ n. omega arith in
    ap missed (rw (leaf node, leaf other) at (same 0 v (omega arith)))
transplanted accepts elsewhere top (suc height) node other same v =
    total_same 2 (λ c. cheapest top (cost binary accepts top height (2 * node + c)) v) (λ c. cheapest top (cost binary elsewhere top height (2 * other + c)) v)
    (λ c below. same_cheapest top (cost binary accepts top height (2 * node + c)) (cost binary elsewhere top height (2 * other + c))
    (transplanted accepts elsewhere top height (2 * node + c) (2 * other + c)
    (λ place w inside. rw (child_leaf node c (2 ^ height) place, child_leaf other c (2 ^ height) place) at
    (rw doubled at (same (c * 2 ^ height + place) w (omega (arith, mul-le-mul_right (2 ^ height) below)))))) v)
  where
    doubled : 2 ^ suc height ≡ 2 * 2 ^ height
    doubled = omega arith

-- another value that comes in saves one term at most
saves_one : (top : ℕ) (cost_of : ℕ → ℕ) (above v : ℕ) → v ≤ top → cheapest top cost_of above ≤ suc (cheapest top cost_of v)
unfolding cheapest
saves_one top cost_of above v within = omega (arith, best_costs_least top cost_of v within)

-- a number that is at most another, and at most one fewer
as_many_or_one_fewer : {count together : ℕ} → count ≤ together → together ≤ suc count → (count ≡ together) ⊎ (count + 1 ≡ together)
as_many_or_one_fewer {count} {together} at_most at_least_lem = split (ℕ_discrete count together)
  where
    split : Dec (count ≡ together) → (count ≡ together) ⊎ (count + 1 ≡ together)
    split (yes as_many) = inl as_many
    split (no other) = inr (omega arith)

module _ (left right joined : ℕ → ℕ → Bool) (top height : ℕ)
    (left_same : (place v : ℕ) → place < 2 ^ height → joined (2 * 2 ^ height + place) v ≡ left (1 * 2 ^ height + place) v)
    (right_same : (place v : ℕ) → place < 2 ^ height → joined (3 * 2 ^ height + place) v ≡ right (1 * 2 ^ height + place) v) where
  -- what a value costs the root is what the two trees need where it comes in
  root_cost : (v : ℕ) → cost binary joined top (suc height) 1 v ≡ fewest binary left top height v + fewest binary right top height v
  unfolding cost total binary
  root_cost v = omega (
    arith,
    same_cheapest top (cost binary joined top height 2) (cost binary left top height 1) (transplanted joined left top height 2 1 left_same) v,
    same_cheapest top (cost binary joined top height 3) (cost binary right top height 1) (transplanted joined right top height 3 1 right_same) v,
  )

  -- no more than the two together
  joined_at_most : (rest : ℕ) → fewest binary joined top (suc height) rest ≤ fewest binary left top height rest + fewest binary right top height rest
  unfolding cheapest
  joined_at_most rest = omega (arith, root_cost rest)

  -- and at most one fewer
  joined_at_least : (rest : ℕ) → fewest binary left top height rest + fewest binary right top height rest ≤ suc (fewest binary joined top (suc height) rest)
  unfolding cheapest
  joined_at_least rest =
      let best : ℕ = best_value top (cost binary joined top (suc height) 1) in
      let within : best ≤ top = best_within top (cost binary joined top (suc height) 1) in
      omega (
        arith,
        root_cost rest,
        root_cost best,
        saves_one top (cost binary left top height 1) rest best within,
        saves_one top (cost binary right top height 1) rest best within,
      )

  -- so as many as the two together, or one fewer
  pub trees_need : (rest : ℕ)
      → let together : ℕ = fewest binary left top height rest + fewest binary right top height rest in
      let joined_fewest : ℕ = fewest binary joined top (suc height) rest in
      (joined_fewest ≡ together) ⊎ (joined_fewest + 1 ≡ together)
  trees_need rest = as_many_or_one_fewer (joined_at_most rest) (joined_at_least rest)
