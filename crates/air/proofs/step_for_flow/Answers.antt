-- `air::step_for_flow` meets its contract: the quotient, rounded up, is the lowest step whose 2,500 times is the flow's square or more.
use native.Mathlib.Omega.{arith}
use borrow.Author.Tests.{le-ltb}
use Rattle.air.specs.Flows.{flow_of}
use Rattle.air.proofs.LowestStep.{by_squares, lowest_only}
use Rattle.air.proofs.step_for_flow.Goals as goal

pub returns : goal.returns
returns c = record {
  refusal_is = rw (le-ltb 1000 c.args.flow c.if-flow-gt1000.false);
  step_is = lowest_only flow_of c.args.flow _ (by_squares c.args.flow _ (omega arith) (omega arith) c.if-flow-gt1000.false);
}
