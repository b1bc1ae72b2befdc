-- `steps::lay_hundreds` meets its contract. The invariant: every step before `step` has its flow.
use Rattle.std.proofs.Common.{◌≡◌, ℕ, ◌*◌, ◌/◌, ◌<◌, get_or}
use Rattle.steps.proofs.lay_hundreds.Given as goal

abbrev pub invariant-loop-step : goal.invariant-loop-step
invariant-loop-step l = (k : ℕ) → k < l.step → get_or l.flows k 0 ≡ k / 100 * 250
