-- What the room and the header hold of a record that is not refused.
use mathlib.Core.Path.{◌≡◌, refl, sym, ap, ◌∙◌}
use mathlib.Core.List.{List}
use Prim.Native.Nat.{ℕ, ◌≤◌}
use native.Mathlib.Omega.{arith}
use lib.IntN.{ℤ, pos, nat_abs}
use lib.ListN.{length, take}
use mir.Syntax.{w32}
use mir.Val.{SFits}
use Rattle.limits.specs.Answers.{laid}
use Rattle.limits.proofs.Laying.{front_of, room_for}
use Rattle.limits.proofs.Refusals.{none_of_two}
use Rattle.histogram.specs.Terms.{nodes_of, values_of}
use Rattle.bands.specs.Bands.{slot_bands, specials_among}
use Rattle.bands.proofs.Bands.{length_slot_bands, specials_of_bands}
use Rattle.record.specs.Record.{special_layout, slots_in, band_in, rest_in, count_in, terms_in, special_count_in, special_in, specials_in}
use Rattle.record.specs.Answers.{header_refusal, record_refusal}
use Rattle.record.proofs.Bounds
use Rattle.record.proofs.Entries.{length_from}
use Rattle.record.proofs.Sound.{sound}
use Rattle.std.specs.Prelude.{Result, Ok}
use Rattle.refusals.specs.declared.Refusal.{Refusal}
use Rattle.record_read.specs.declared.Header.{Header}
use Rattle.record_read.specs.Reading.{HeaderOf}
use Rattle.record_read.specs.Inner.{RoomRead}
use Rattle.record_read.proofs.Terms.{nodes_long, values_long}

module _ {bytes : List ℕ} {answer : Result Header Refusal} {header : Header} {nodes nodes' : List ℕ} {values values' : List ℤ} {bands bands' : List ℕ}
    (answer_read : RoomRead bytes answer nodes nodes' values values' bands bands') (right : answer ≡ Ok header) where
  read : RoomRead bytes (Ok header) nodes nodes' values values' bands bands'
  read = rw right at answer_read

  pub header_read : HeaderOf bytes (Ok header)
  header_read = read.header

  pub record_right : record_refusal bytes ≡ 0
  record_right = sym read.refusal_is

  header_right : header_refusal bytes ≡ 0
  header_right = (none_of_two (header_refusal bytes) _ record_right).0

  pub count_is : header.count ≡ count_in bytes
  count_is = read.header.count_is

  pub slots_are : header.slots ≡ slots_in bytes
  slots_are = read.header.slots_is

  pub rest_is : header.rest ≡ rest_in bytes
  rest_is = read.header.rest_is

  pub band_is : header.band ≡ pos (band_in bytes)
  band_is = read.header.band_is

  pub specials_counted : header.specials ≡ special_count_in bytes
  specials_counted = read.header.specials_is

  nodes_in_room : nodes' ≡ laid (nodes_of (terms_in bytes)) nodes
  nodes_in_room = read.nodes_are ∙ rw header_right

  values_in_room : values' ≡ laid (values_of (terms_in bytes)) values
  values_in_room = read.values_are ∙ rw header_right

  long_nodes : length (nodes_of (terms_in bytes)) ≡ header.count
  long_nodes = nodes_long (count_in bytes) bytes ∙ sym count_is

  long_values : length (values_of (terms_in bytes)) ≡ header.count
  long_values = values_long (count_in bytes) bytes ∙ sym count_is

  pub room_nodes : take header.count nodes' ≡ nodes_of (terms_in bytes)
  room_nodes = rw nodes_in_room (front_of (nodes_of (terms_in bytes)) nodes header.count long_nodes)

  pub room_values : take header.count values' ≡ values_of (terms_in bytes)
  room_values = rw values_in_room (front_of (values_of (terms_in bytes)) values header.count long_values)

  pub in_nodes : header.count ≤ length nodes'
  in_nodes = rw nodes_in_room (omega (arith, room_for (nodes_of (terms_in bytes)) nodes, long_nodes))

  pub in_values : header.count ≤ length values'
  in_values = rw values_in_room (omega (arith, room_for (values_of (terms_in bytes)) values, long_values))

  pub nodes_counted : length (take header.count nodes') ≡ header.count
  nodes_counted = ap length room_nodes ∙ long_nodes

  pub values_counted : length (take header.count values') ≡ header.count
  values_counted = ap length room_values ∙ long_values

  bands_in_room : bands' ≡ laid (slot_bands (slots_in bytes) (band_in bytes) (specials_in bytes)) bands
  bands_in_room = read.bands_are refl

  long_bands : length (slot_bands (slots_in bytes) (band_in bytes) (specials_in bytes)) ≡ header.slots
  long_bands = length_slot_bands (slots_in bytes) (band_in bytes) (specials_in bytes) ∙ sym slots_are

  pub room_bands : take header.slots bands' ≡ slot_bands (slots_in bytes) (band_in bytes) (specials_in bytes)
  room_bands = rw bands_in_room (front_of (slot_bands (slots_in bytes) (band_in bytes) (specials_in bytes)) bands header.slots long_bands)

  pub in_bands : header.slots ≤ length bands'
  in_bands = rw bands_in_room (omega (arith, room_for (slot_bands (slots_in bytes) (band_in bytes) (specials_in bytes)) bands, long_bands))

  pub bands_counted : length (take header.slots bands') ≡ header.slots
  bands_counted = ap length room_bands ∙ long_bands

  pub few_slots : header.slots ≤ 512
  few_slots = rw slots_are (Bounds.few_slots bytes)

  pub band_fits : SFits w32 header.band
  band_fits = rw band_is (record { sfits = omega (arith, Bounds.band_bound bytes) })

  -- the special slots among the bands at the front of the room
  pub gathered_are : specials_among (nat_abs header.band) (take header.slots bands') ≡ specials_in bytes
  gathered_are = rw (band_is, room_bands) (specials_of_bands (band_in bytes) (slots_in bytes) (specials_in bytes) (sound bytes record_right).specials_right_lem)

  pub specials_long : length (specials_in bytes) ≡ header.specials
  specials_long = length_from special_layout special_in (special_count_in bytes) _ bytes ∙ sym specials_counted
