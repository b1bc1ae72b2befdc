-- `subtree::node::combine` meets its contract.
use mathlib.Core.Path.{ap₂}
use Prim.Native.Nat.{◌+◌}
use native.Mathlib.Omega.{arith}
use Rattle.subtree.proofs.Combining.{combined_lists, combined_singles}
use Rattle.subtree.proofs.node.combine.Goals as goal

pub combine_lists-requires : goal.combine_lists-requires
combine_lists-requires c =
    let combinable = c.requires in (
      record {
        placed = record { room = omega arith; apart = omega arith; within = omega arith; small = omega arith };
        left_sorted = rw c.load-lefts.ensures.0 combinable.left_sorted;
        right_sorted = rw c.load-rights.ensures.0 combinable.right_sorted;
      },
      omega arith,
    )

pub returns-then-lefts-rights-eq2 : goal.returns-then-lefts-rights-eq2
returns-then-lefts-rights-eq2 c =
    let left = c.ends_at-left_ends.ensures in
    let right = c.ends_at-right_ends.ensures in
    combined_singles c.requires (ap₂ ◌+◌ c.load.ensures.0 c.load-2.ensures.0) (omega (arith, c.load-lefts.ensures.0, c.load-rights.ensures.0, c.if-lefts-rights-eq2.true))
    left.0 left.1 right.0 right.1 c.combine_singles.ensures

pub returns-else-lefts-rights-eq2 : goal.returns-else-lefts-rights-eq2
returns-else-lefts-rights-eq2 c =
    combined_lists c.requires (ap₂ ◌+◌ c.load.ensures.0 c.load-2.ensures.0) c.load-lefts.ensures.0 c.load-rights.ensures.0 c.combine_lists.ensures
