-- `histogram::restore::restore_checked_slot` meets its contract: a synopsis that is not refused has few slots and a small rest value, so that the casts keep both.
use Rattle.std.proofs.Common.{arith, pow_pos}
use Rattle.histogram.specs.Tree.{height}
use Rattle.histogram.specs.Terms.{paired}
use Rattle.histogram.proofs.Ascent.{ascends}
use Rattle.histogram.proofs.Powers.{padded_bound}
use Rattle.histogram.proofs.Refusals.{accepted}
use Rattle.histogram.proofs.restore.restore_checked_slot.Goals as goal

pub restore_node-requires : goal.restore_node-requires
restore_node-requires c =
    let args = c.args in
    let taken = accepted args.slots args.rest (paired args.nodes.now args.values.now) c.requires.1 in
    record {
      same_length = c.requires.0;
      ascending = ascends args.nodes.now args.values.now c.requires.0 (record { passes = taken.terms_valid });
      from_root = omega (arith, pow_pos (height args.slots));
      in_tree = omega (arith, padded_bound taken.slots.few_slots);
    }
