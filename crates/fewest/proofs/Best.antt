-- At one node: the best value costs least and is the first that does; any term or none costs at least the cheapest, and the one chosen costs just that.
use mathlib.Core.Path.{◌≡◌, refl}
use mathlib.Core.Bool.{Bool, true, false, not, cond}
use mathlib.Core.Option.{Option, none, some}
use Prim.Native.Nat.{ℕ, zero, suc, ◌+◌, ◌≤◌, ◌<◌, min}
use native.Mathlib.Decide.{ℕ_discrete}
use native.Mathlib.Omega.{arith}
use lib.Dec.{T, leb, leb→le, nleb→lt}
use Rattle.fewest.specs.Node.{placed, term_count, Within, best_value, cheapest, chosen}

-- what holds of both outcomes, each under its test, holds of the choice
by_test : (Holds : ℕ → Type 0) (test : Bool) {x y : ℕ} → (T test → Holds x) → (T (not test) → Holds y) → Holds (cond test x y)
by_test Holds true if-so if-not = if-so tt
by_test Holds false if-so if-not = if-not tt

-- the best value is one of 0 to top
pub best_within : (top : ℕ) (cost_of : ℕ → ℕ) → best_value top cost_of ≤ top
unfolding best_value
best_within zero cost_of = omega arith
best_within (suc top) cost_of =
    by_test (λ x. x ≤ suc top) (leb (cost_of (best_value top cost_of)) (cost_of (suc top))) (λ test. omega (arith, best_within top cost_of)) (λ test. omega arith)

-- no value costs less than the best one
pub best_costs_least : (top : ℕ) (cost_of : ℕ → ℕ) (v : ℕ) → v ≤ top → cost_of (best_value top cost_of) ≤ cost_of v
unfolding best_value
best_costs_least zero cost_of v within = let first : v ≡ 0 = omega arith in rw first (omega arith)
best_costs_least (suc top) cost_of v within = split (ℕ_discrete v (suc top)) (best_costs_least top cost_of v)
  where
    before : ℕ
    before = best_value top cost_of

    split : Dec (v ≡ suc top) → (v ≤ top → cost_of before ≤ cost_of v) → cost_of (cond (leb (cost_of before) (cost_of (suc top))) before (suc top)) ≤ cost_of v
    split (yes last) earlier =
        rw last
        (by_test (λ x. cost_of x ≤ cost_of (suc top)) (leb (cost_of before) (cost_of (suc top))) (λ test. leb→le (cost_of before) (cost_of (suc top)) test) (λ test. omega arith))
    split (no not_last) earlier =
        let least : cost_of before ≤ cost_of v = earlier (omega arith) in
        by_test (λ x. cost_of x ≤ cost_of v) (leb (cost_of before) (cost_of (suc top))) (λ test. least) (λ test. omega (arith, nleb→lt (cost_of before) (cost_of (suc top)) test))

-- no value below the best one costs as little
pub best_is_first : (top : ℕ) (cost_of : ℕ → ℕ) (v : ℕ) → v ≤ top → cost_of v ≤ cost_of (best_value top cost_of) → best_value top cost_of ≤ v
unfolding best_value
best_is_first zero cost_of v within as-cheap = omega arith
best_is_first (suc top) cost_of v within as-cheap =
    split (leb (cost_of (best_value top cost_of)) (cost_of (suc top))) refl as-cheap (best_is_first top cost_of v) (best_costs_least top cost_of v) (best_within top cost_of)
  where
    before : ℕ
    before = best_value top cost_of

    split : (test : Bool) → leb (cost_of before) (cost_of (suc top)) ≡ test → cost_of v ≤ cost_of (cond test before (suc top))
        → (v ≤ top → cost_of v ≤ cost_of before → before ≤ v) → (v ≤ top → cost_of before ≤ cost_of v) → before ≤ top → cond test before (suc top) ≤ v
    split true answer cheap first least low = late (ℕ_discrete v (suc top))
      where
        late : Dec (v ≡ suc top) → before ≤ v
        late (yes last) = omega arith
        late (no not_last) = first (omega arith) cheap
    split false answer cheap first least low = late (ℕ_discrete v (suc top))
      where
        late : Dec (v ≡ suc top) → suc top ≤ v
        late (yes last) = omega arith
        late (no not_last) = absurd (omega (arith, least (omega arith), nleb→lt (cost_of before) (cost_of (suc top)) (rw answer tt)))

-- a node with any term, or none, pays at least the cheapest
pub pays_cheapest : (top : ℕ) (cost_of : ℕ → ℕ) (above : ℕ) (term : Option ℕ) → Within top term
    → cheapest top cost_of above ≤ cost_of (placed term above) + term_count term
unfolding cheapest
pays_cheapest top cost_of above none within = omega arith
pays_cheapest top cost_of above (some value) within = omega (arith, best_costs_least top cost_of value within)

-- the term chosen, or none, pays just the cheapest
pub chosen_pays_cheapest : (top : ℕ) (cost_of : ℕ → ℕ) (above : ℕ)
    → cost_of (placed (chosen top cost_of above) above) + term_count (chosen top cost_of above) ≡ cheapest top cost_of above
unfolding chosen cheapest
chosen_pays_cheapest top cost_of above = split (leb (cost_of above) (cost_of best)) refl
  where
    best : ℕ
    best = best_value top cost_of

    split : (test : Bool) → leb (cost_of above) (cost_of best) ≡ test
        → cost_of (placed (cond test none (some best)) above) + term_count (cond test none (some best)) ≡ min (cost_of above) (suc (cost_of best))
    split true answer = omega (arith, leb→le (cost_of above) (cost_of best) (rw answer tt))
    split false answer = omega (arith, nleb→lt (cost_of above) (cost_of best) (rw answer tt))

-- where it is chosen, what stands at the node costs no more than any value
pub chosen_costs_least : (top : ℕ) (cost_of : ℕ → ℕ) (above v : ℕ) → v ≤ top → cost_of (placed (chosen top cost_of above) above) ≤ cost_of v
unfolding chosen
chosen_costs_least top cost_of above v within = split (leb (cost_of above) (cost_of best)) refl
  where
    best : ℕ
    best = best_value top cost_of

    split : (test : Bool) → leb (cost_of above) (cost_of best) ≡ test → cost_of (placed (cond test none (some best)) above) ≤ cost_of v
    split true answer = omega (arith, leb→le (cost_of above) (cost_of best) (rw answer tt), best_costs_least top cost_of v within)
    split false answer = best_costs_least top cost_of v within

-- where what comes in costs no more than any value, no term is chosen
pub none_chosen : (top : ℕ) (cost_of : ℕ → ℕ) (above : ℕ) → cost_of above ≤ cost_of (best_value top cost_of) → chosen top cost_of above ≡ none
unfolding chosen
none_chosen top cost_of above as-cheap = split (leb (cost_of above) (cost_of best)) refl
  where
    best : ℕ
    best = best_value top cost_of

    split : (test : Bool) → leb (cost_of above) (cost_of best) ≡ test → cond test none (some best) ≡ none
    split true answer = refl
    split false answer = absurd (omega (arith, nleb→lt (cost_of above) (cost_of best) (rw answer tt)))

-- elsewhere a term with the best value is
pub best_chosen : (top : ℕ) (cost_of : ℕ → ℕ) (above : ℕ) → cost_of (best_value top cost_of) < cost_of above → chosen top cost_of above ≡ some (best_value top cost_of)
unfolding chosen
best_chosen top cost_of above dearer = split (leb (cost_of above) (cost_of best)) refl
  where
    best : ℕ
    best = best_value top cost_of

    split : (test : Bool) → leb (cost_of above) (cost_of best) ≡ test → cond test none (some best) ≡ some best
    split true answer = absurd (omega (arith, leb→le (cost_of above) (cost_of best) (rw answer tt)))
    split false answer = refl
