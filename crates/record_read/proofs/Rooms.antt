-- A record read into room: its header's refusal, that of its terms, that of its special slots, or none.
use mathlib.Core.Path.{◌≡◌, sym, ap, ap₂, ◌∙◌}
use mathlib.Core.Bool.{Bool, true, false, not}
use mathlib.Core.List.{List, [], ◌++◌}
use Prim.Native.Nat.{ℕ, ◌*◌, ◌≤◌}
use native.Mathlib.Omega.{arith}
use lib.Dec.{ltb}
use lib.IntN.{ℤ, pos, nat_abs}
use lib.ListN.{length, take, drop, length-append, length-drop}
use lib.Seq.{length-take-le}
use borrow.Author.Tests.{not-false}
use mir.Syntax.{w32}
use mir.Val.{SFits}
use Rattle.limits.specs.Answers.{◌when◌, ◌then◌, granted, laid}
use Rattle.limits.specs.Limits.{beyond}
use Rattle.limits.proofs.Laying.{front_of, room_for}
use Rattle.limits.proofs.Refusals.{passed}
use Rattle.bands.specs.Bands.{slot_bands}
use Rattle.bands.proofs.Bands.{length_slot_bands}
use Rattle.histogram.specs.Tree.{padded}
use Rattle.histogram.specs.Terms.{paired, nodes_of, values_of, valid_from, valid}
use Rattle.histogram.proofs.Paired.{paired_again}
use Rattle.record.specs.Record.{slots_in, band_in, rest_in, count_in, terms_in, special_count_in, specials_in, well_formed}
use Rattle.record.specs.Answers.{header_refusal}
use Rattle.record.proofs.Bounds
use Rattle.record.proofs.RoundTrips.{well_formed_parts}
use Rattle.std.specs.Prelude.{Result, Ok, Err}
use Rattle.refusals.specs.declared.Refusal.{Refusal}
use Rattle.refusals.specs.declared.Refusal.TheVariants.{TermsWrong, SpecialsWrong}
use Rattle.record_read.specs.declared.Header.{Header}
use Rattle.refusals.proofs.Rows.{row_nothing}
use Rattle.record_read.specs.Reading.{HeaderOf}
use Rattle.record_read.specs.Inner.{HeaderRead, first_terms, TermsFit, TermsLaid, BandsFit, BandsRead, Room, RoomRead}
use Rattle.record_read.proofs.Terms.{nodes_long, values_long}

without_header : (bytes : List ℕ) (refusal : Refusal) → HeaderOf bytes (Err refusal)
without_header bytes refusal = record {
  slots_is = sym (row_nothing refusal (slots_in bytes) 0);
  band_is = sym (row_nothing refusal (pos (band_in bytes)) (pos 0));
  rest_is = sym (row_nothing refusal (rest_in bytes) (pos 0));
  count_is = sym (row_nothing refusal (count_in bytes) 0);
  specials_is = sym (row_nothing refusal (special_count_in bytes) 0);
}

module _ {bytes : List ℕ} {answer : Result Header Refusal} {header : Header} (answer_read : HeaderRead bytes answer) (right : answer ≡ Ok header) where
  read : HeaderRead bytes (Ok header)
  read = rw right at answer_read

  header_right : header_refusal bytes ≡ 0
  header_right = sym read.refusal_is

  form_is_right : well_formed bytes ≡ true
  form_is_right = not-false (well_formed bytes) (passed 6 (not (well_formed bytes)) (2 when beyond 20000 (rest_in bytes) then 3 when ltb 40000 (band_in bytes)) header_right).0

  count_is : header.count ≡ count_in bytes
  count_is = read.header.count_is

  slots_are : header.slots ≡ slots_in bytes
  slots_are = read.header.slots_is

  pub band_is : header.band ≡ pos (band_in bytes)
  band_is = read.header.band_is

  specials_are : header.specials ≡ special_count_in bytes
  specials_are = read.header.specials_is

  pub few_slots : header.slots ≤ 512
  few_slots = rw slots_are (Bounds.few_slots bytes)

  pub few_terms : header.count ≤ 1023
  few_terms = rw count_is (Bounds.few_terms bytes)

  pub terms_fit : {nodes : List ℕ} {values : List ℤ} {bands : List ℕ} → Room nodes values bands → TermsFit bytes header.count nodes values
  terms_fit room = record {
    few = few_terms;
    inside = omega (arith, (well_formed_parts bytes form_is_right).byte_count, count_is);
    in_nodes = omega (arith, few_terms, room.of_nodes);
    in_values = omega (arith, few_terms, room.of_values);
  }

  pub band_fits : SFits w32 header.band
  band_fits = rw band_is (record { sfits = omega (arith, Bounds.band_bound bytes) })

  -- the room for the bands, and the bands of the slots at its front
  module _ (bands : List ℕ) (enough : 512 ≤ length bands) where
    pub in_bands : header.slots ≤ length bands
    in_bands = omega (arith, few_slots, enough)

    pub bands_fit : BandsFit bytes header.count header.specials (nat_abs header.band) (take header.slots bands)
    bands_fit = record {
      form_is_right = form_is_right;
      terms_is = count_is;
      specials_is = specials_are;
      common_is = rw band_is;
      as_many = length-take-le header.slots bands in_bands ∙ slots_are;
    }

    module _ (front : List ℕ) (long : length front ≡ length (take header.slots bands)) where
      bands_long : length (front ++ drop header.slots bands) ≡ length bands
      bands_long = simp (length-append, length-drop) (omega (arith, long, length-take-le header.slots bands in_bands, in_bands))

      over_front : front ≡ slot_bands (slots_in bytes) (band_in bytes) (specials_in bytes) → front ++ drop header.slots bands ≡ laid (slot_bands (slots_in bytes) (band_in bytes) (specials_in bytes)) bands
      over_front front_is =
          ap₂ (λ (written : List ℕ) (slots : ℕ). written ++ drop slots bands) front_is
          (slots_are ∙ sym (length_slot_bands (slots_in bytes) (band_in bytes) (specials_in bytes)))

  module _ {nodes nodes' : List ℕ} {values values' : List ℤ} (terms : TermsLaid bytes header.count nodes nodes' values values') where
    pub nodes_front : take header.count nodes' ≡ nodes_of (first_terms header.count bytes)
    nodes_front = rw terms.nodes_are (front_of (nodes_of (first_terms header.count bytes)) nodes header.count (nodes_long header.count bytes))

    pub values_front : take header.count values' ≡ values_of (first_terms header.count bytes)
    values_front = rw terms.values_are (front_of (values_of (first_terms header.count bytes)) values header.count (values_long header.count bytes))

    pub in_nodes : header.count ≤ length nodes'
    in_nodes =
        rw terms.nodes_are
        (omega (arith, room_for (nodes_of (first_terms header.count bytes)) nodes, nodes_long header.count bytes))

    pub in_values : header.count ≤ length values'
    in_values =
        rw terms.values_are
        (omega (arith, room_for (values_of (first_terms header.count bytes)) values, values_long header.count bytes))

    terms_same : first_terms header.count bytes ≡ terms_in bytes
    terms_same = ap (λ (k : ℕ). first_terms k bytes) count_is

    pub nodes_counted : header.count ≡ length (take header.count nodes')
    nodes_counted = sym (ap length nodes_front ∙ nodes_long header.count bytes)

    pub values_counted : header.count ≡ length (take header.count values')
    values_counted = sym (ap length values_front ∙ values_long header.count bytes)

    nodes_in_room : nodes' ≡ laid (granted (header_refusal bytes) (nodes_of (terms_in bytes)) []) nodes
    nodes_in_room = terms.nodes_are ∙ rw (header_right, terms_same)

    values_in_room : values' ≡ laid (granted (header_refusal bytes) (values_of (terms_in bytes)) []) values
    values_in_room = terms.values_are ∙ rw (header_right, terms_same)

    -- what was read of the bands and how long it is, and the test of the terms
    module _ (bands : List ℕ) {front : List ℕ} {specials proper : Bool} {half : ℕ} (enough : 512 ≤ length bands) (long : length front ≡ length (take header.slots bands)) (own : BandsRead bytes specials front)
        (half_is : half ≡ padded header.slots) (test : proper ≡ valid_from 0 (2 * half) (paired (take header.count nodes') (take header.count values'))) where
      tested : proper ≡ valid (slots_in bytes) (terms_in bytes)
      tested = test ∙ rw (nodes_front, values_front, paired_again (first_terms header.count bytes), terms_same, half_is, slots_are)

      pub terms_wrong : proper ≡ false → RoomRead bytes (Err TermsWrong) nodes nodes' values values' bands (front ++ drop header.slots bands)
      terms_wrong improper = record {
        refusal_is = rw (header_right, ← tested, improper);
        header = without_header bytes TermsWrong;
        nodes_are = nodes_in_room;
        values_are = values_in_room;
        bands_long = bands_long bands enough front long;
        bands_are = λ impossible. absurd (omega (arith, impossible));
      }

      pub specials_wrong : proper ≡ true → specials ≡ false → RoomRead bytes (Err SpecialsWrong) nodes nodes' values values' bands (front ++ drop header.slots bands)
      specials_wrong is not_right = record {
        refusal_is = rw (header_right, ← tested, is, ← own.right_is, not_right);
        header = without_header bytes SpecialsWrong;
        nodes_are = nodes_in_room;
        values_are = values_in_room;
        bands_long = bands_long bands enough front long;
        bands_are = λ impossible. absurd (omega (arith, impossible));
      }

      pub all_right : proper ≡ true → specials ≡ true → RoomRead bytes (Ok header) nodes nodes' values values' bands (front ++ drop header.slots bands)
      all_right is right_too = record {
        refusal_is = rw (header_right, ← tested, is, ← own.right_is, right_too);
        header = read.header;
        nodes_are = nodes_in_room;
        values_are = values_in_room;
        bands_long = bands_long bands enough front long;
        bands_are = λ _. over_front bands enough front long (own.bands_are right_too);
      }
