-- `air::flow_of_step` meets its contract: the rule of the table is one test, computed at each of its 401 entries.
use mathlib.Core.List.{List}
use Prim.Native.Nat.{ℕ}
use native.Mathlib.Omega.{arith}
use borrow.Author.Tests.{le-ltb}
use lib.Dec.{T}
use lib.ListN.{length, get_or}
use mathlib.Core.Path.{◌≡◌}
use Prim.Native.Nat.{◌≤◌}
use Rattle.air.specs.Flows.{flow_of}
use Rattle.air.proofs.Entries.{passes}
use Rattle.air.proofs.FactoryTable.{is_flow, each_flow}
use borrow.Author.Rules.{rules}
use Rattle.air.proofs.flow_of_step.Goals as goal

-- a table of 401 entries at all of which the test passes has the flow of each step
flow_there : (table : List ℕ) → T (passes is_flow 0 table) → length table ≡ 401 → (step : ℕ) → step ≤ 400 → get_or table step 0 ≡ flow_of step
flow_there table passed long step within = each_flow table passed step (omega (arith, long))

pub returns : goal.returns
returns c = record { refusal_is = rw (le-ltb 400 c.args.step c.if-step-gt400.false); flow_is = search (rules, flow_there) }
