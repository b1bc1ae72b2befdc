-- The lowest step for a flow, by any table: it is what its words say, and the only such step. And the square-root rule makes a table.
use mathlib.Core.Path.{◌≡◌, sym}
use mathlib.Core.Bool.{Bool}
use Prim.Native.Nat.{ℕ, zero, suc, ◌+◌, ◌*◌, ◌≤◌, ◌<◌}
use native.Mathlib.Nat.{add-zero, add-suc, le_refl, le_trans, lt_of_not-le, mul-le-mul}
use native.Mathlib.Omega.{arith}
use lib.Dec.{leb}
use borrow.Author.Tests.{le-leb, lt-leb, leb-true, leb-false}
use Rattle.limits.proofs.Lowest.{lowest_passes, lowest_first, lowest_most, lowest_is}
use Rattle.air.specs.Flows.{flow_of, IsTable, IsLowestStep, lowest_step}
use Rattle.air.proofs.Roots.{root_rule, square_reached, root_reached, flow_is}

module _ (flowAt : ℕ → ℕ) (flow : ℕ) where
  -- the test that the lowest step passes first
  abbrev reached_at : ℕ → Bool
  reached_at step = leb flow (flowAt step)

  -- it exists for every flow that the table ends at or above
  pub lowest_rule : IsTable flowAt → flow ≤ 1000 → IsLowestStep flowAt flow (lowest_step flowAt flow)
  lowest_rule table within = record {
    is_a_step = few;
    reaches = leb-true flow (flowAt (lowest_step flowAt flow)) (lowest_passes reached_at 401 (omega (arith, few)));
    no_lower = λ lower below. leb-false flow (flowAt lower) (lowest_first reached_at 401 lower below);
  }
    where
      few : lowest_step flowAt flow ≤ 400
      few = lowest_most reached_at 401 400 (le-leb flow (flowAt 400) (omega (arith, table.ends)))

  pub lowest_only : (step : ℕ) → IsLowestStep flowAt flow step → step ≡ lowest_step flowAt flow
  lowest_only step is =
      sym
      (lowest_is reached_at 401 step (omega (arith, is.is_a_step)) (λ lower below. lt-leb flow (flowAt lower) (is.no_lower lower below))
      (le-leb flow (flowAt step) is.reaches))

-- a table never falls, whatever number of steps lies between
pub rises : {flowAt : ℕ → ℕ} → IsTable flowAt → (lower count : ℕ) → lower + count ≤ 400 → flowAt lower ≤ flowAt (lower + count)
rises {flowAt} table lower zero within = rw (add-zero lower) (le_refl (flowAt lower))
rises {flowAt} table lower (suc count) within =
    rw (add-suc lower count) (le_trans (rises table lower count (omega arith)) (table.never_falls (lower + count) (omega arith)))

-- the factory's flows are a table
pub factory : IsTable flow_of
factory = record {
  starts = flow_is 0 0 (omega arith);
  ends = flow_is 400 1000 (omega arith);
  never_falls = λ step below. square_reached (root_rule (2500 * suc step)) (flow_of step) (omega (arith, (root_rule (2500 * step)).reached));
}

-- the lowest step whose 2,500 times is a flow's square or more is the lowest whose flow reaches the flow
pub by_squares : (flow step : ℕ) → flow * flow ≤ 2500 * step → 2500 * step < flow * flow + 2500 → flow ≤ 1000 → IsLowestStep flow_of flow step
by_squares flow step reached least within = record {
  is_a_step = omega (arith, mul-le-mul within within);
  reaches = square_reached (root_rule (2500 * step)) flow reached;
  no_lower = λ lower below. lt_of_not-le (λ (no : flow ≤ flow_of lower). omega (arith, root_reached (root_rule (2500 * lower)) flow no));
}
