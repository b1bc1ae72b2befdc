-- `histogram::terms::find` meets its contract. The invariant: every node before `low` is below the node sought, and none from `high` on is.
use mathlib.Core.List.{List}
use Prim.Native.Nat.{ℕ, ◌-◌, ◌≤◌, ◌<◌}
use lib.ListN.{length, get_or}
use Rattle.histogram.proofs.terms.find.Given as goal

pub record Between (nodes : List ℕ) (node low high : ℕ) : Type 0 where
  pub low_first : low ≤ high
  pub within : high ≤ length nodes
  pub below : (k : ℕ) → k < low → get_or nodes k 0 < node
  pub not_below : (k : ℕ) → high ≤ k → k < length nodes → node ≤ get_or nodes k 0

abbrev pub invariant-loop-low : goal.invariant-loop-low
invariant-loop-low l = Between l.nodes l.node l.low l.high

abbrev pub decreases-loop-low : goal.decreases-loop-low
decreases-loop-low l = l.high - l.low
