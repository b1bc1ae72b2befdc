-- What is read or built into room of a fixed size is what is wanted for destinations of any number of places: the room has a place for all that can be handed over.
use Rattle.std.proofs.Common.{◌≡◌, List, ◌++◌, map, ℕ, ◌<◌, ◌≤◌, min, Bool, true, false, ◌||◌, ℤ, length, take, drop, refl, sym, ap, ap₂, subst, ◌∙◌, arith, Result, Ok, length-append}
use lib.Dec.{ltb}
use lib.ListN.{length-map, replicate, length-replicate}
use lib.Seq.{take-append-le, length-take-le}
use borrow.Author.Tests.{lt-ltb, le-ltb, ltb-true, ltb-false}
use Rattle.limits.specs.Answers.{◌when◌, laid}
use Rattle.limits.specs.Limits.{outside_slots}
use Rattle.limits.proofs.Laying.{front_of, past_front, room_for}
use Rattle.limits.proofs.Refusals.{slots_within, then_same}
use Rattle.refusals.specs.declared.Refusal.{Refusal}
use Rattle.bands.specs.declared.SpecialSlot.{SpecialSlot}
use Rattle.bands.specs.Bands.{special_slots}
use Rattle.bands.proofs.Bands.{few_specials}
use Rattle.histogram.specs.declared.Term.{Term}
use Rattle.histogram.specs.Tree.{padded}
use Rattle.histogram.specs.Terms.{paired}
use Rattle.histogram.proofs.Powers.{padded_bound}
use Rattle.profile.specs.Text.{text_refusal, setpoints_of, specials_of}
use Rattle.profile.specs.Answers.{profile_refusal}
use Rattle.profile.proofs.Accepted.{accepted}
use Rattle.record_read.specs.Reading.{RecordRead}
use Rattle.record_read.specs.declared.Header.{Header}
use Rattle.record.specs.Record.{slots_in, band_in, count_in, term_layout, term_in, terms_in, special_count_in, special_in, special_layout, specials_in}
use Rattle.record.specs.Answers.{record_refusal, reading_refusal}
use Rattle.record.proofs.Bounds.{few_slots, few_terms}
use Rattle.record.proofs.Entries.{length_from}
use Rattle.record.proofs.Sound.{sound}
use Rattle.build.specs.Building.{build_refusal, Built, handed_over}
use Rattle.build.specs.declared.BuiltSynopsis.{BuiltSynopsis}
use Rattle.synopsis.specs.Answers.{TermsHanded}
use Rattle.synopsis.specs.Pairs.{PairLaws}
use Rattle.synopsis.specs.Sorts.{term_of, term_laws, special_laws}
use Rattle.synopsis.proofs.Parting.{put_again, zipped_firsts, zipped_seconds}

-- so many places are as good as more where no more are wanted
enough_places : (most places wanted : ℕ) → wanted ≤ most → ltb (min places most) wanted ≡ ltb places wanted
enough_places most places wanted few = by_test (ltb places wanted) refl
  where
    by_test : (short : Bool) → ltb places wanted ≡ short → ltb (min places most) wanted ≡ short
    by_test true is = lt-ltb (min places most) wanted (omega (arith, ltb-true places wanted is))
    by_test false is = le-ltb (min places most) wanted (omega (arith, ltb-false places wanted is))

-- as many terms and special slots as the counts say
pub terms_long : (bytes : List ℕ) → length (terms_in bytes) ≡ count_in bytes
terms_long bytes = length_from term_layout term_in (count_in bytes) _ bytes

pub specials_long : (bytes : List ℕ) → length (specials_in bytes) ≡ special_count_in bytes
specials_long bytes = length_from special_layout special_in (special_count_in bytes) _ bytes

-- a record that is not refused has at most 1,023 terms and 512 special slots
pub same_reading : (bytes : List ℕ) (places specialPlaces : ℕ) → reading_refusal bytes (min places 1024) (min specialPlaces 513) ≡ reading_refusal bytes places specialPlaces
same_reading bytes places specialPlaces = then_same (record_refusal bytes) (λ right.
    let few : length (specials_in bytes) ≤ slots_in bytes = few_specials (band_in bytes) (slots_in bytes) (specials_in bytes) (sound bytes right).specials_right_lem in
    ap₂ (λ (short shorter : Bool). 6 when (short || shorter)) (enough_places 1024 places (count_in bytes) (omega (arith, few_terms bytes)))
    (enough_places 513 specialPlaces (special_count_in bytes) (omega (arith, few, few_slots bytes, specials_long bytes))))

-- a text that is not refused has at most 512 special slots
pub same_text : (text : List ℕ) (places specialPlaces : ℕ) → profile_refusal text places (min specialPlaces 513) ≡ profile_refusal text places specialPlaces
same_text text places specialPlaces = then_same (text_refusal text) (λ right.
    let held = accepted text right in
    ap (λ (short : Bool). 6 when (ltb places (length (setpoints_of text)) || short))
    (enough_places 513 specialPlaces (length (specials_of text)) (omega (arith, few_specials _ (length (setpoints_of text)) (specials_of text) held.specials_right_lem, (slots_within (length (setpoints_of text)) held.slots_inside).few_slots))))

-- building wants at most 512 terms
same_building : (profile : List ℤ) (rest band : ℤ) (special : List SpecialSlot) (places numbers : ℕ) → build_refusal profile rest band special (min places 1024) numbers ≡ build_refusal profile rest band special places numbers
same_building profile rest band special places numbers = by_slots (outside_slots (length profile)) refl
  where
    by_slots : (outside : Bool) → outside_slots (length profile) ≡ outside → build_refusal profile rest band special (min places 1024) numbers ≡ build_refusal profile rest band special places numbers
    by_slots true is = rw is refl
    by_slots false is = rw (enough_places 1024 places (padded (length profile)) (omega (arith, padded_bound (slots_within (length profile) is).few_slots))) refl

-- the part of a room for that many places
pub room_part : (most places : ℕ) {limit : ℕ} → limit ≡ min places most → length (take limit (replicate {A = ℕ} most 0)) ≡ min places most
room_part most places {limit} limit_is = length-take-le limit (replicate {A = ℕ} most 0) (omega (arith, length-replicate {A = ℕ} most 0, limit_is)) ∙ limit_is

-- the first of a list's front are the first of the list
module _ {A : Type 0} {count : ℕ} (front more : List A) (few : count ≤ length front) where
  pub reaches : count ≤ length (front ++ more)
  reaches = simp length-append (omega (arith, few))

  pub taken : count ≡ length (take count (front ++ more))
  taken = sym (length-take-le count (front ++ more) reaches)

pub fit_together : {A B : Type 0} {count places : ℕ} (front more : List A) (front' more' : List B) → count ≤ length front → count ≤ length front' → count ≤ places
    → (length (take count (front ++ more)) ≡ length (take count (front' ++ more'))) × (length (take count (front ++ more)) ≤ places)
fit_together front more front' more' few few' fits = (sym (taken front more few) ∙ taken front' more' few', omega (arith, taken front more few, fits))

-- pairs whose numbers were laid over the fronts of two lists, of which these are the fronts
module _ {B D : Type 0} {make : ℕ → B → D} {first_of : D → ℕ} {second_of : D → B} {together : List ℕ → List B → List D} (laws : PairLaws make first_of second_of together)
    (pairs : List D) {count : ℕ} (long : length pairs ≡ count) (before : List ℕ) {firsts : List ℕ} (before' : List B) {seconds : List B}
    (firsts-are : firsts ≡ laid (map first_of pairs) before) (seconds-are : seconds ≡ laid (map second_of pairs) before') where
  pub in_firsts : count ≤ length firsts
  in_firsts = rw firsts-are (omega (arith, room_for (map first_of pairs) before, length-map pairs first_of, long))

  pub in_seconds : count ≤ length seconds
  in_seconds = rw seconds-are (omega (arith, room_for (map second_of pairs) before', length-map pairs second_of, long))

  pub handed_pairs : (more : List ℕ) (more' : List B) → together (take count (firsts ++ more)) (take count (seconds ++ more')) ≡ pairs
  handed_pairs more more' =
      ap₂ together
      (take-append-le count firsts more in_firsts ∙ ap (take count) firsts-are ∙ front_of (map first_of pairs) before count (length-map pairs first_of ∙ long))
      (take-append-le count seconds more' in_seconds ∙ ap (take count) seconds-are ∙ front_of (map second_of pairs) before' count (length-map pairs second_of ∙ long))
      ∙ put_again laws pairs

-- a record that was read into the front of the room
module _ {bytes : List ℕ} {header : Header} {nodes nodes' : List ℕ} {values values' : List ℤ} {specials specials' own own' : List ℕ} (read : RecordRead bytes (Ok header) nodes nodes' values values' specials specials' own own') where
  terms_counted : length (terms_in bytes) ≡ header.count
  terms_counted = terms_long bytes ∙ sym read.header.count_is

  specials_counted : length (specials_in bytes) ≡ header.specials
  specials_counted = specials_long bytes ∙ sym read.header.specials_is

  pub read_nodes : header.count ≤ length nodes'
  read_nodes = in_firsts term_laws (terms_in bytes) terms_counted nodes values read.nodes_are read.values_are

  pub read_values : header.count ≤ length values'
  read_values = in_seconds term_laws (terms_in bytes) terms_counted nodes values read.nodes_are read.values_are

  pub read_specials : header.specials ≤ length specials'
  read_specials = in_firsts special_laws (specials_in bytes) specials_counted specials own read.specials_are read.own_are

  pub read_own : header.specials ≤ length own'
  read_own = in_seconds special_laws (specials_in bytes) specials_counted specials own read.specials_are read.own_are

  pub terms_handed : (more : List ℕ) (more' : List ℤ) → paired (take header.count (nodes' ++ more)) (take header.count (values' ++ more')) ≡ terms_in bytes
  terms_handed = handed_pairs term_laws (terms_in bytes) terms_counted nodes values read.nodes_are read.values_are

  pub specials_handed : (more more' : List ℕ) → special_slots (take header.specials (specials' ++ more)) (take header.specials (own' ++ more')) ≡ specials_in bytes
  specials_handed = handed_pairs special_laws (specials_in bytes) specials_counted specials own read.specials_are read.own_are

-- terms that were built into the front of the room
module _ {profile : List ℤ} {rest band : ℤ} {specials : List SpecialSlot} {places numbers : ℕ} {built : BuiltSynopsis} (nodes : List ℕ) (values : List ℤ) (said : Built profile rest band specials places numbers (Ok built) (handed_over built.count nodes values)) where
  zipped_many : built.count ≡ length (paired (take built.count nodes) (take built.count values))
  zipped_many = said.count_is

  pub few_nodes : built.count ≤ length nodes
  few_nodes = omega (arith, zipped_firsts term_of built.count nodes values, zipped_many ∙ ap length (term_laws.together_is (take built.count nodes) (take built.count values)))

  pub few_values : built.count ≤ length values
  few_values = omega (arith, zipped_seconds term_of built.count nodes values, zipped_many ∙ ap length (term_laws.together_is (take built.count nodes) (take built.count values)))

  -- they stand in the front of the destination that they were laid over, and what lies past them is as it was
  pub handed_built : (more : List ℕ) (more' : List ℤ) (terms : List Term) {terms' : List Term} {scratch scratch' : List ℤ} → terms' ≡ laid (paired (take built.count (nodes ++ more)) (take built.count (values ++ more'))) terms → (0 < 0 → scratch' ≡ scratch)
      → Built profile rest band specials places numbers (Ok built) (take built.count terms') × TermsHanded (Ok built) terms terms' scratch scratch'
  handed_built more more' terms {terms'} laid-is left =
      let front : paired (take built.count (nodes ++ more)) (take built.count (values ++ more')) ≡ handed_over built.count nodes values =
      ap₂ paired (take-append-le built.count nodes more few_nodes) (take-append-le built.count values more' few_values) in
      let over : terms' ≡ laid (handed_over built.count nodes values) terms = laid-is ∙ ap (λ (l : List Term). laid l terms) front in (
        subst (Built profile rest band specials places numbers (Ok built)) (sym (ap (take built.count) over ∙ front_of (handed_over built.count nodes values) terms built.count (sym zipped_many))) said,
        record {
          past = ap (drop built.count) over ∙ past_front (handed_over built.count nodes values) terms built.count (sym zipped_many);
          scratch_refused = left;
        },
      )

-- what was built for the room's places was built for the destination's
pub built_over : {profile : List ℤ} {rest band : ℤ} {specials : List SpecialSlot} {limit numbers : ℕ} {answer : Result BuiltSynopsis Refusal} {terms : List Term} (places : ℕ) → limit ≡ min places 1024
    → Built profile rest band specials limit numbers answer terms → Built profile rest band specials places numbers answer terms
built_over {profile} {rest} {band} {specials} {limit} {numbers} places limit_is said = record {
  refusal_is = said.refusal_is ∙ ap (λ (k : ℕ). build_refusal profile rest band specials k numbers) limit_is ∙ same_building profile rest band specials places numbers;
  terms_are = said.terms_are;
  count_is = said.count_is;
  error_is = said.error_is;
}
