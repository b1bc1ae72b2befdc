-- `verdict::judge` meets its contract: the slots' part of the values handed down is compared, which `Judged` turns into the verdict.
use Rattle.std.proofs.Common.{arith, ◌≡◌, ◌∙◌, ap, ℕ, ◌*◌, ◌≤◌, ◌<◌, length, pos}
use lib.ListN.{get_or}
use lib.Pow.{pow_pos}
use mir.Facts.{to_z-of_z}
use Rattle.histogram.specs.Tree.{height}
use Rattle.histogram.specs.Terms.{paired}
use Rattle.histogram.specs.Restored.{restored_at}
use Rattle.histogram.proofs.Powers.{padded_bound}
use Rattle.verdict.proofs.Judged.{judged}
use Rattle.verdict.proofs.judge.Goals as goal

pub overflow_mul-padded : goal.overflow_mul-padded
overflow_mul-padded c = omega (arith, padded_bound c.requires.few_slots)

pub hand_down-requires : goal.hand_down-requires
hand_down-requires c = record {
  same_length = c.requires.same_length;
  valid = rw c.padded_length-padded.ensures c.requires.terms_valid;
  some_node = omega (arith, c.padded_length-padded.ensures, pow_pos (height (length c.args.setpoints.now)));
  room = omega (arith, padded_bound c.requires.few_slots);
}

pub overflow_add-end : goal.overflow_add-end
overflow_add-end c = omega (arith, padded_bound c.requires.few_slots)

pub offset_bounds-restored-padded : goal.offset_bounds-restored-padded
offset_bounds-restored-padded c = omega (arith, padded_bound c.requires.few_slots)

pub slice_bounds-compare-end : goal.slice_bounds-compare-end
slice_bounds-compare-end c = omega (arith, padded_bound c.requires.few_slots, c.hand_down.auto.restored)

pub returns : goal.returns
returns c =
    let at_node : (node : ℕ) → node < 2 * c.padded_length-padded.result → get_or c.hand_down.new.restored node (pos 0) ≡ restored_at c.args.rest (paired c.args.nodes.now c.args.values.now) node =
    λ node below. c.hand_down.ensures.at_node node below ∙ ap (λ r. restored_at r (paired c.args.nodes.now c.args.values.now) node) (to_z-of_z c.ranges.rest) in
    let room : 2 * c.padded_length-padded.result ≤ length c.hand_down.new.restored = omega (arith, padded_bound c.requires.few_slots, c.hand_down.auto.restored) in
    judged c.args.setpoints.now c.args.bands.now c.args.rest c.args.nodes.now c.args.values.now c.requires _ c.padded_length-padded.ensures _ room at_node _ c.compare.ensures
