-- `record_check::read_slot` meets its contract: the record's refusal, or the slot restored from the terms in the room.
use Rattle.std.proofs.Common.{sym, ◌∙◌, rules, to_z-of_z, w32, SFits}
use Rattle.record_read.proofs.Accepted as Accepted
use Rattle.record_check.proofs.Slots.{refused_slot, terms_right, restored_slot_lem}
use Rattle.record_check.proofs.read_slot.Goals as goal

pub returns-in_err-read : goal.returns-in_err-read
returns-in_err-read c = search (rules, refused_slot)

pub slice_bounds-nodes-end : goal.slice_bounds-nodes-end
slice_bounds-nodes-end c = Accepted.in_nodes c.read_into_room.ensures c.in_ok-read.was

pub slice_bounds-restore_checked_slot-end : goal.slice_bounds-restore_checked_slot-end
slice_bounds-restore_checked_slot-end c = sym (Accepted.nodes_counted c.read_into_room.ensures c.in_ok-read.was)

pub slice_bounds-values-end : goal.slice_bounds-values-end
slice_bounds-values-end c = Accepted.in_values c.read_into_room.ensures c.in_ok-read.was

pub slice_bounds-restore_checked_slot-end-2 : goal.slice_bounds-restore_checked_slot-end-2
slice_bounds-restore_checked_slot-end-2 c = sym (Accepted.values_counted c.read_into_room.ensures c.in_ok-read.was)

pub restore_checked_slot-requires : goal.restore_checked_slot-requires
restore_checked_slot-requires c =
    let read = c.read_into_room.ensures in
    let right = c.in_ok-read.was in
    let fits : SFits w32 c.in_ok-read.read.rest = search rules in (
      Accepted.nodes_counted read right ∙ sym (Accepted.values_counted read right),
      rw (to_z-of_z fits) (terms_right read c.args.slot right),
    )

pub returns : goal.returns
returns c =
    let fits : SFits w32 c.in_ok-read.read.rest = search rules in
    restored_slot_lem c.read_into_room.ensures c.args.slot c.in_ok-read.was _ _ (rw (to_z-of_z fits) at c.restore_checked_slot.ensures)
