-- `synopsis::read_record` meets its contract: the record's terms and special slots, which the room has places for, are put together over the destinations.
use Rattle.std.proofs.Common.{◌≡◌, List, Err, length, ap, ap₂, ◌∙◌, rules, arith}
use Rattle.limits.specs.Answers.{laid}
use Rattle.refusals.proofs.Rows.{row_nothing}
use Rattle.bands.specs.declared.SpecialSlot.{SpecialSlot}
use Rattle.histogram.specs.declared.Term.{Term}
use Rattle.record.specs.Answers.{reading_refusal}
use Rattle.synopsis.proofs.Rooms.{room_part, reaches, taken, fit_together, same_reading, read_nodes, read_values, read_specials, read_own, terms_handed, specials_handed}
use Rattle.synopsis.proofs.read_record.Goals as goal

pub returns-in_err-header : goal.returns-in_err-header
returns-in_err-header c =
    let a = c.args in
    let read = c.in_err-header.ensures in
    let is : c.from_residual.result ≡ Err c.in_err-header.field-0.0 = search rules in
    rw is record {
      refusal_is =
          read.refusal_is ∙ ap₂ (reading_refusal a.bytes.now) (room_part 1024 (length a.terms.now) c.min-limit.ensures) (room_part 513 (length a.specials.now) c.min-special_limit.ensures)
          ∙ same_reading a.bytes.now (length a.terms.now) (length a.specials.now);
      header = read.header;
      terms_are = search (rules, row_nothing);
      specials_are = search (rules, row_nothing);
    }

pub slice_bounds-nodes-end-2 : goal.slice_bounds-nodes-end-2
slice_bounds-nodes-end-2 c = reaches _ _ (read_nodes c.in_ok-header.ensures)

pub slice_bounds-put_together-end : goal.slice_bounds-put_together-end
slice_bounds-put_together-end c = taken _ _ (read_nodes c.in_ok-header.ensures)

pub slice_bounds-values-end-2 : goal.slice_bounds-values-end-2
slice_bounds-values-end-2 c = reaches _ _ (read_values c.in_ok-header.ensures)

pub slice_bounds-put_together-end-2 : goal.slice_bounds-put_together-end-2
slice_bounds-put_together-end-2 c = taken _ _ (read_values c.in_ok-header.ensures)

pub put_together-requires : goal.put_together-requires
put_together-requires c =
    let read = c.in_ok-header.ensures in
    let room = c.read_record.auto.nodes ∙ room_part 1024 (length c.args.terms.now) c.min-limit.ensures in
    fit_together _ _ _ _ (read_nodes read) (read_values read) (omega (arith, read_nodes read, room))

pub slice_bounds-slots-end-2 : goal.slice_bounds-slots-end-2
slice_bounds-slots-end-2 c = reaches _ _ (read_specials c.in_ok-header.ensures)

pub slice_bounds-put_together-end-3 : goal.slice_bounds-put_together-end-3
slice_bounds-put_together-end-3 c = taken _ _ (read_specials c.in_ok-header.ensures)

pub slice_bounds-own-end-2 : goal.slice_bounds-own-end-2
slice_bounds-own-end-2 c = reaches _ _ (read_own c.in_ok-header.ensures)

pub slice_bounds-put_together-end-4 : goal.slice_bounds-put_together-end-4
slice_bounds-put_together-end-4 c = taken _ _ (read_own c.in_ok-header.ensures)

pub put_together-requires-2 : goal.put_together-requires-2
put_together-requires-2 c =
    let read = c.in_ok-header.ensures in
    let room = c.read_record.auto.specials ∙ room_part 513 (length c.args.specials.now) c.min-special_limit.ensures in
    fit_together _ _ _ _ (read_specials read) (read_own read) (omega (arith, read_specials read, room))

pub returns : goal.returns
returns c =
    let a = c.args in
    let read = c.in_ok-header.ensures in
    record {
      refusal_is =
          read.refusal_is ∙ ap₂ (reading_refusal a.bytes.now) (room_part 1024 (length a.terms.now) c.min-limit.ensures) (room_part 513 (length a.specials.now) c.min-special_limit.ensures)
          ∙ same_reading a.bytes.now (length a.terms.now) (length a.specials.now);
      header = read.header;
      terms_are = c.put_together.ensures ∙ ap (λ (l : List Term). laid l a.terms.now) (terms_handed read _ _);
      specials_are = c.put_together-2.ensures ∙ ap (λ (l : List SpecialSlot). laid l a.specials.now) (specials_handed read _ _);
    }
