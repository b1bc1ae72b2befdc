-- `record_read::read_into_room` meets its contract: each way out is a case of `Rooms`.
use Rattle.std.proofs.Common.{arith, sym, ◌∙◌}
use lib.Seq.{length-take-le}
use mir.Facts.{to_z-of_z}
use Rattle.histogram.proofs.Powers.{padded_bound}
use Rattle.record_read.proofs.Rooms
use Rattle.record_read.proofs.read_into_room.Goals as goal

pub slice_bounds-read_slot_bands-end : goal.slice_bounds-read_slot_bands-end
slice_bounds-read_slot_bands-end c = Rooms.in_bands c.read_header.ensures c.in_ok-header.was c.args.bands.now c.requires.of_bands

pub slice_bounds-read_slot_bands-end-2 : goal.slice_bounds-read_slot_bands-end-2
slice_bounds-read_slot_bands-end-2 c =
    sym (length-take-le c.in_ok-header.header.slots c.args.bands.now (Rooms.in_bands c.read_header.ensures c.in_ok-header.was c.args.bands.now c.requires.of_bands))

pub read_slot_bands-right-requires : goal.read_slot_bands-right-requires
read_slot_bands-right-requires c =
    let read = c.read_header.ensures in
    let right = c.in_ok-header.was in
    rw (to_z-of_z (Rooms.band_fits read right)) (Rooms.bands_fit read right c.args.bands.now c.requires.of_bands)

pub read_terms-requires : goal.read_terms-requires
read_terms-requires c = Rooms.terms_fit c.read_header.ensures c.in_ok-header.was c.requires

pub padded_length-end-requires : goal.padded_length-end-requires
padded_length-end-requires c = Rooms.few_slots c.read_header.ensures c.in_ok-header.was

pub overflow_mul-end : goal.overflow_mul-end
overflow_mul-end c = omega (arith, c.padded_length-end.ensures, padded_bound (Rooms.few_slots c.read_header.ensures c.in_ok-header.was))

pub slice_bounds-is_valid-end : goal.slice_bounds-is_valid-end
slice_bounds-is_valid-end c = Rooms.in_nodes c.read_header.ensures c.in_ok-header.was c.read_terms.ensures

pub slice_bounds-is_valid-end-2 : goal.slice_bounds-is_valid-end-2
slice_bounds-is_valid-end-2 c = Rooms.nodes_counted c.read_header.ensures c.in_ok-header.was c.read_terms.ensures

pub slice_bounds-is_valid-end-3 : goal.slice_bounds-is_valid-end-3
slice_bounds-is_valid-end-3 c = Rooms.in_values c.read_header.ensures c.in_ok-header.was c.read_terms.ensures

pub slice_bounds-is_valid-end-4 : goal.slice_bounds-is_valid-end-4
slice_bounds-is_valid-end-4 c = Rooms.values_counted c.read_header.ensures c.in_ok-header.was c.read_terms.ensures

pub is_valid-requires : goal.is_valid-requires
is_valid-requires c =
    sym (Rooms.nodes_counted c.read_header.ensures c.in_ok-header.was c.read_terms.ensures) ∙ Rooms.values_counted c.read_header.ensures c.in_ok-header.was c.read_terms.ensures

pub returns-then-not-is_valid : goal.returns-then-not-is_valid
returns-then-not-is_valid c =
    let bands = c.read_slot_bands-right in
    Rooms.terms_wrong c.read_header.ensures c.in_ok-header.was c.read_terms.ensures c.args.bands.now c.requires.of_bands bands.auto.bands bands.ensures
    c.padded_length-end.ensures c.is_valid.ensures c.if-not-is_valid.true

pub returns-then-not-right : goal.returns-then-not-right
returns-then-not-right c =
    let bands = c.read_slot_bands-right in
    Rooms.specials_wrong c.read_header.ensures c.in_ok-header.was c.read_terms.ensures c.args.bands.now c.requires.of_bands bands.auto.bands bands.ensures
    c.padded_length-end.ensures c.is_valid.ensures c.if-not-is_valid.false c.if-not-right.true

pub returns : goal.returns
returns c =
    let bands = c.read_slot_bands-right in
    Rooms.all_right c.read_header.ensures c.in_ok-header.was c.read_terms.ensures c.args.bands.now c.requires.of_bands bands.auto.bands bands.ensures
    c.padded_length-end.ensures c.is_valid.ensures c.if-not-is_valid.false c.if-not-right.false
