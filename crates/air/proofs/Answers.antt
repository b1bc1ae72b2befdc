-- What the two calls answer by their contracts, in F-7's words.
use mathlib.Core.Path.{◌≡◌}
use Prim.Native.Nat.{ℕ, ◌*◌, ◌≤◌}
use borrow.Author.Tests.{le-ltb}
use Rattle.std.specs.Prelude.{Result}
use Rattle.refusals.specs.Answers.{refused_with, answered}
use Rattle.refusals.specs.declared.Refusal.{Refusal}
use Rattle.air.specs.Flows.{IsWholeRoot, flow_of, FlowGiven, IsLowestStep, StepFound}
use Rattle.air.proofs.Roots.{root_rule}
use Rattle.air.proofs.LowestStep.{lowest_rule, factory}

-- a step of 0 to 400 is not refused, and its flow is the whole part of the root
pub flow_answered : (step : ℕ) (answer : Result ℕ Refusal) → FlowGiven step answer → step ≤ 400 → (refused_with answer ≡ 0) × IsWholeRoot (2500 * step) (answered 0 answer)
flow_answered step answer given within =
    let granted_is : refused_with answer ≡ 0 = rw (le-ltb 400 step within) at given.refusal_is in
    (granted_is, rw (given.flow_is, granted_is) (root_rule (2500 * step)))

-- a flow of 0 to 1,000 is not refused, and its step is the lowest whose flow reaches it
pub step_answered : (flow : ℕ) (answer : Result ℕ Refusal) → StepFound flow answer → flow ≤ 1000 → (refused_with answer ≡ 0) × IsLowestStep flow_of flow (answered 0 answer)
step_answered flow answer found within =
    let granted_is : refused_with answer ≡ 0 = rw (le-ltb 1000 flow within) at found.refusal_is in
    (granted_is, rw (found.step_is, granted_is) (lowest_rule flow_of flow factory within))
