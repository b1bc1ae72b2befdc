-- `histogram::restore::restore_profile` meets its contract: the values handed down to nodes m to m + n - 1 are the setpoints restored in the n slots.
use Rattle.std.proofs.Common.{rules, arith, ◌≡◌, ◌∙◌, ap, ℕ, ◌+◌, ◌-◌, ◌*◌, ◌≤◌, ◌<◌, List, length, get_or, take, drop, ℤ, pos, pow_pos, le-ltb}
use Rattle.limits.specs.Answers.{laid}
use Rattle.limits.proofs.Signed.{narrower}
use Rattle.histogram.specs.Tree.{height}
use Rattle.histogram.specs.Terms.{paired}
use Rattle.histogram.specs.Restored.{restored_at, restored_slot, restored_profile}
use Rattle.histogram.specs.Restoring.{synopsis_refusal}
use Rattle.histogram.specs.Inner.{HandedDown}
use Rattle.histogram.proofs.Counted.{counted_part}
use Rattle.histogram.proofs.Powers.{height_reaches, padded_bound}
use Rattle.histogram.proofs.Refusals.{accepted}
use Rattle.histogram.proofs.restore.restore_profile.Goals as goal

pub hand_down-requires : goal.hand_down-requires
hand_down-requires c =
    let args = c.args in
    let none : synopsis_refusal args.slots args.rest (paired args.nodes.now args.values.now) ≡ 0 = search rules in
    let taken = accepted args.slots args.rest (paired args.nodes.now args.values.now) none in
    let few : c.padded_length-padded.result ≤ 512 = omega (arith, padded_bound taken.slots.few_slots) in
    record {
      same_length = c.requires;
      valid = rw c.padded_length-padded.ensures taken.terms_valid;
      some_node = omega (arith, c.padded_length-padded.ensures, pow_pos (height args.slots));
      room = let enough : 2 * c.padded_length-padded.result ≤ 1024 = omega (arith, few) in enough;
    }

pub slice_bounds-lay-end : goal.slice_bounds-lay-end
slice_bounds-lay-end c =
    let args = c.args in
    let none : synopsis_refusal args.slots args.rest (paired args.nodes.now args.values.now) ≡ 0 = search rules in
    let taken = accepted args.slots args.rest (paired args.nodes.now args.values.now) none in
    let within : c.padded_length-padded.result + args.slots ≤ length c.hand_down.new.restored =
    omega (arith, c.hand_down.auto.restored, padded_bound taken.slots.few_slots, taken.slots.few_slots) in
    within

pub returns : goal.returns
returns c =
    let args = c.args in
    let none : synopsis_refusal args.slots args.rest (paired args.nodes.now args.values.now) ≡ 0 = search rules in
    let taken = accepted args.slots args.rest (paired args.nodes.now args.values.now) none in
    let first = c.padded_length-padded.result in
    let terms = paired args.nodes.now args.values.now in
    let before = args.setpoints.now in
    let within : first + args.slots ≤ length c.hand_down.new.restored =
    omega (arith, c.hand_down.auto.restored, padded_bound taken.slots.few_slots, taken.slots.few_slots) in
    let handed : HandedDown args.rest terms (2 * first) _ c.hand_down.new.restored = rw (narrower c.ranges.rest taken.rest_within) at c.hand_down.ensures in
    let slot_holds : (slot : ℕ) → slot < args.slots → get_or c.hand_down.new.restored (first + slot) (pos 0) ≡ restored_slot args.slots args.rest terms slot =
    λ slot below.
    handed.at_node (first + slot) (omega (arith, c.padded_length-padded.ensures, height_reaches args.slots))
    ∙ ap (λ (node : ℕ). restored_at args.rest terms (node + slot)) c.padded_length-padded.ensures in
    let part_holds : take (first + args.slots - first) (drop first c.hand_down.new.restored) ≡ restored_profile args.slots args.rest terms =
    counted_part _ (pos 0) c.hand_down.new.restored first _ within slot_holds in
    record {
      refusal_is = rw (none, le-ltb (length before) _ c.if-setpoints-slots.false);
      destination_is = c.lay.ensures ∙ ap (λ (written : List ℤ). laid written before) part_holds;
    }
