-- `record_read::read_record` meets its contract: the record's own refusal, 6, or its terms and special slots laid over the destinations.
use Rattle.std.proofs.Common.{rules, arith, ◌≡◌, sym, ap, ◌∙◌, ℕ, ◌≤◌, length, List, ℤ, Result, Ok}
use lib.IntN.{nat_abs}
use lib.ListN.{take}
use borrow.Author.Tests.{le-ltb}
use mir.Facts.{to_z-of_z}
use Rattle.limits.specs.Answers.{laid}
use Rattle.refusals.specs.declared.Refusal.{Refusal}
use Rattle.refusals.proofs.Rows.{row_first, row_nothing}
use Rattle.bands.specs.Bands.{specials_among}
use Rattle.bands.specs.Inner.{Room, Gathered}
use Rattle.record.specs.Record.{count_in, special_count_in}
use Rattle.record_read.specs.declared.Header.{Header}
use Rattle.record_read.specs.Reading.{RecordRead}
use Rattle.record_read.specs.Inner.{RoomRead}
use Rattle.record_read.proofs.Accepted
use Rattle.record_read.proofs.read_record.Goals as goal

module _ {bytes : List ℕ} {answer : Result Header Refusal} {header : Header} {room room' : List ℕ} {values values' : List ℤ} {bands bands' : List ℕ}
    (read : RoomRead bytes answer room room' values values' bands bands') (right : answer ≡ Ok header) (nodes : List ℕ) (others : List ℤ) (specials own : List ℕ) where
  gather_room : header.specials ≤ length specials → length specials ≡ length own
      → Room (specials_among (nat_abs header.band) (take header.slots bands')) (take header.slots bands') specials own
  gather_room enough same =
      let count = ap length (Accepted.gathered_are read right) ∙ Accepted.specials_long read right in
      record {
        few_slots = omega (arith, Accepted.bands_counted read right, Accepted.few_slots read right);
        for_slots = omega arith;
        for_bands = omega arith;
      }

  all_laid : {nodes' : List ℕ} {others' : List ℤ} {specials' own' : List ℕ} → header.count ≤ length nodes → header.specials ≤ length specials
      → nodes' ≡ laid (take header.count room') nodes → others' ≡ laid (take header.count values') others
      → Gathered (specials_among (nat_abs header.band) (take header.slots bands')) specials own specials' own'
      → RecordRead bytes (Ok header) nodes nodes' others others' specials specials' own own'
  all_laid fits special-fits nodes-is values-is gathered = record {
    refusal_is =
        rw (
          Accepted.record_right read right,
          le-ltb (length nodes) (count_in bytes) (omega (arith, Accepted.count_is read right)),
          le-ltb (length specials) (special_count_in bytes) (omega (arith, Accepted.specials_counted read right)),
        );
    header = Accepted.header_read read right;
    nodes_are = nodes-is ∙ rw (Accepted.room_nodes read right);
    values_are = values-is ∙ rw (Accepted.room_values read right);
    specials_are = gathered.slots_laid ∙ rw (Accepted.gathered_are read right);
    own_are = gathered.bands_laid ∙ rw (Accepted.gathered_are read right);
  }

pub returns-in_err-header : goal.returns-in_err-header
returns-in_err-header c = search (rules, row_first, row_nothing)

pub slice_bounds-room_of_nodes-end : goal.slice_bounds-room_of_nodes-end
slice_bounds-room_of_nodes-end c = Accepted.in_nodes c.read_into_room.ensures c.in_ok-header.was

pub slice_bounds-lay-end : goal.slice_bounds-lay-end
slice_bounds-lay-end c = sym (Accepted.nodes_counted c.read_into_room.ensures c.in_ok-header.was)

pub slice_bounds-room_of_values-end : goal.slice_bounds-room_of_values-end
slice_bounds-room_of_values-end c = Accepted.in_values c.read_into_room.ensures c.in_ok-header.was

pub slice_bounds-lay-end-2 : goal.slice_bounds-lay-end-2
slice_bounds-lay-end-2 c = sym (Accepted.values_counted c.read_into_room.ensures c.in_ok-header.was)

pub slice_bounds-room_of_bands-end : goal.slice_bounds-room_of_bands-end
slice_bounds-room_of_bands-end c = Accepted.in_bands c.read_into_room.ensures c.in_ok-header.was

pub slice_bounds-gather-end : goal.slice_bounds-gather-end
slice_bounds-gather-end c = sym (Accepted.bands_counted c.read_into_room.ensures c.in_ok-header.was)

pub gather-requires : goal.gather-requires
gather-requires c =
    let a = c.args in
    let read = c.read_into_room.ensures in
    let right = c.in_ok-header.was in
    rw (to_z-of_z (Accepted.band_fits read right)) (gather_room read right a.nodes.now a.values.now a.specials.now a.own.now (omega arith) c.requires.1)

pub returns : goal.returns
returns c =
    let a = c.args in
    let read = c.read_into_room.ensures in
    let right = c.in_ok-header.was in
    let gathered = rw (to_z-of_z (Accepted.band_fits read right)) at c.gather.ensures in
    all_laid read right a.nodes.now a.values.now a.specials.now a.own.now (omega arith) (omega arith) c.lay.ensures c.lay-2.ensures gathered
