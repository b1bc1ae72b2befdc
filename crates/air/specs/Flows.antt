-- Primary air: document 02, F-7. For the auditor.
-- `proofs/Roots.antt` shows that `whole_root` is the one number that `IsWholeRoot` says (`root_rule`, `root_only`), `proofs/LowestStep.antt` that `lowest_step` is the one step that `IsLowestStep` says (`lowest_rule`, `lowest_only`).
use Rattle.std.specs.Prelude.{◌≡◌, ℕ, suc, ◌*◌, ◌≤◌, ◌<◌, leb, ltb, Result}
use Rattle.limits.specs.Answers.{◌when◌, granted}
use Rattle.limits.specs.Lowest.{lowest}
use Rattle.refusals.specs.Answers.{refused_with, answered}
use Rattle.refusals.specs.declared.Refusal.{Refusal}

-- "the whole part of the square root" of a number: its square is at most the number, and the square of the next is above it
pub record IsWholeRoot (number root : ℕ) : Type 0 where
  pub reached : root * root ≤ number
  pub next_not : number < suc root * suc root

-- that root: the lowest number for which the square of the next is above
abbrev pub whole_root : ℕ → ℕ
whole_root number = lowest (λ root. ltb number (suc root * suc root)) (suc number)

-- "flow in thousandths: the whole part of the square root of 2,500 times the step"
abbrev pub flow_of : ℕ → ℕ
flow_of step = whole_root (2500 * step)

-- "13 where a step above 400 .. is given"
abbrev pub flow_refusal : ℕ → ℕ
flow_refusal step = 13 when ltb 400 step

-- the flow of a step
pub record FlowGiven (step : ℕ) (answer : Result ℕ Refusal) : Type 0 where
  pub refusal_is : refused_with answer ≡ flow_refusal step
  pub flow_is : answered 0 answer ≡ granted (refused_with answer) (flow_of step) 0

-- a table of flows, the factory's or another, has one for each of the steps 0 to 400: it starts at 0, ends at 1,000 and never falls
pub record IsTable (flowAt : ℕ → ℕ) : Type 0 where
  pub starts : flowAt 0 ≡ 0
  pub ends : flowAt 400 ≡ 1000
  pub never_falls : (step : ℕ) → step < 400 → flowAt step ≤ flowAt (suc step)

-- "the lowest step whose flow reaches a given flow": its flow reaches it, and no lower step's does
pub record IsLowestStep (flowAt : ℕ → ℕ) (flow step : ℕ) : Type 0 where
  pub is_a_step : step ≤ 400
  pub reaches : flow ≤ flowAt step
  pub no_lower : (lower : ℕ) → lower < step → flowAt lower < flow

-- that step: the lowest of 0 to 400 whose flow reaches it
abbrev pub lowest_step : (ℕ → ℕ) → ℕ → ℕ
lowest_step flowAt flow = lowest (λ step. leb flow (flowAt step)) 401

-- "13 where .. a flow above 1,000 is given"
abbrev pub step_refusal : ℕ → ℕ
step_refusal flow = 13 when ltb 1000 flow

-- the lowest step for a flow
pub record StepFound (flow : ℕ) (answer : Result ℕ Refusal) : Type 0 where
  pub refusal_is : refused_with answer ≡ step_refusal flow
  pub step_is : answered 0 answer ≡ granted (refused_with answer) (lowest_step flow_of flow) 0
