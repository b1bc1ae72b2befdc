-- The record of a profile's first best synopsis: building is not refused, writing is refused with 6 alone, and the fields fit.
use mathlib.Core.Path.{◌≡◌, sym, ap, subst, ◌∙◌}
use mathlib.Core.List.{List, [], ◌∷◌}
use Prim.Native.Nat.{ℕ, ◌≤◌}
use native.Mathlib.Omega.{arith}
use lib.Dec.{T, ltb}
use lib.IntN.{ℤ, nat_abs}
use lib.ListN.{length, take, length-take}
use lib.Seq.{length-take-le}
use lib.Signed.{non_neg}
use mir.Syntax.{w32}
use mir.Val.{SFits}
use Rattle.limits.specs.Answers.{◌when◌, granted, laid}
use Rattle.limits.proofs.Beyond.{band_not_below}
use Rattle.limits.proofs.Signed.{fits_32}
use Rattle.bands.specs.Bands.{specials_among}
use Rattle.bands.proofs.Bands.{few_among}
use Rattle.profile.specs.Text.{text_refusal, setpoints_of, bands_of}
use Rattle.profile.proofs.Accepted.{Held}
use Rattle.histogram.specs.declared.Term.{Term}
use Rattle.histogram.specs.Terms.{paired}
use Rattle.histogram.specs.Errors.{greatest_error}
use Rattle.histogram.proofs.Powers.{padded_bound}
use Rattle.record.specs.Record.{record_bytes}
use Rattle.std.specs.Prelude.{Result, Ok, Err}
use Rattle.refusals.specs.declared.Refusal.{Refusal}
use Rattle.refusals.specs.Rows.{row}
use Rattle.refusals.proofs.Rows.{row_first, row_nothing}
use Rattle.record_write.specs.Inner.{Writable, BandsWritten}
use Rattle.claims.specs.Best.{Best}
use Rattle.claims.specs.First.{first_synopsis}
use Rattle.claims.proofs.First.{synopsis_first}
use Rattle.build.specs.declared.BuiltSynopsis.{BuiltSynopsis}
use Rattle.build.specs.Building.{handed_over}
use Rattle.build.specs.Inner.{KnownProfile, Buildable, FirstBuilt}
use Rattle.build.proofs.Accepted.{ProfileAccepted, profile_accepted}
use Rattle.build.proofs.FewTerms.{best_few}
use Rattle.panel.specs.Results.{packed_fields, text_record, text_to_record_refusal, TextToRecord}
use Rattle.panel.specs.Inner.{built_length, RecordBuilt}
use Rattle.panel.proofs.Packing.{refused_packed}
use Rattle.panel.proofs.Longest.{length_bound}

-- no more terms than nodes, and than values
paired_nodes : (nodes : List ℕ) (values : List ℤ) → length (paired nodes values) ≤ length nodes
unfolding paired
paired_nodes [] values = omega arith
paired_nodes (node ∷ nodes) [] = omega arith
paired_nodes (node ∷ nodes) (value ∷ values) = omega (arith, paired_nodes nodes values)

paired_values : (nodes : List ℕ) (values : List ℤ) → length (paired nodes values) ≤ length values
unfolding paired
paired_values [] values = omega arith
paired_values (node ∷ nodes) [] = omega arith
paired_values (node ∷ nodes) (value ∷ values) = omega (arith, paired_values nodes values)

module _ (count : ℕ) (nodes : List ℕ) (values : List ℤ) (count_is : count ≡ length (handed_over count nodes values)) where
  pub nodes_enough : count ≤ length nodes
  nodes_enough = omega (arith, paired_nodes (take count nodes) (take count values), length-take count nodes)

  pub values_enough : count ≤ length values
  values_enough = omega (arith, paired_values (take count nodes) (take count values), length-take count values)

module _ {profile : List ℤ} {bands : List ℕ} {rest band : ℤ} {specials : ℕ} (known : KnownProfile profile bands rest band specials) where
  accepted : ProfileAccepted profile rest
  accepted = profile_accepted profile rest known.right.values_right

  pub rest_within : nat_abs rest ≤ 20000
  rest_within = accepted.in_range.rest_within

  pub band_within : nat_abs band ≤ 40000
  band_within = known.counted.common_within

  pub band_from_zero : T (non_neg band)
  band_from_zero = band_not_below band known.band_inside

  -- its numbers fit 32 bits
  pub rest_fits : SFits w32 rest
  rest_fits = fits_32 rest (omega (arith, rest_within))

  pub band_fits : SFits w32 band
  band_fits = fits_32 band band_within

  -- building with room for 512 terms is not refused
  pub buildable : (nodes : List ℕ) (values scratch : List ℤ) → length nodes ≡ 512 → length values ≡ 512 → length scratch ≡ 12288 → Buildable profile rest bands nodes values scratch
  buildable nodes values scratch of_nodes of_values of_scratch = record {
    acceptable = record { few_slots = accepted.slots.few_slots; in_range = accepted.in_range; scratch_long = omega (arith, of_scratch) };
    some_slot = accepted.slots.some_slot;
    right = known.right;
    same_length = of_nodes ∙ sym of_values;
    destination_long = omega (arith, of_nodes, padded_bound accepted.slots.few_slots);
  }

  module _ {answer : BuiltSynopsis} {nodes nodes' : List ℕ} {values values' : List ℤ} (built : FirstBuilt profile rest bands answer nodes nodes' values values') where
    abbrev count : ℕ
    count = answer.count

    pub in_nodes : count ≤ length nodes'
    in_nodes = nodes_enough count nodes' values' built.count_is

    pub in_values : count ≤ length values'
    in_values = values_enough count nodes' values' built.count_is

    best : Best profile rest bands (first_synopsis profile rest bands)
    best = (synopsis_first accepted.in_range accepted.slots.some_slot bands).best

    -- writing its terms asks no more
    pub writable : Writable (length profile) (nat_abs band) (take count nodes') (take count values') bands specials
    writable = record {
      some_slot = accepted.slots.some_slot;
      few_slots = accepted.slots.few_slots;
      terms_paired = length-take-le count nodes' in_nodes ∙ sym (length-take-le count values' in_values);
      terms_valid = rw built.terms_are best.synopsis.valid;
      bands_of_slots = omega (arith, known.right.each_band);
      specials_counted = known.counted.specials_are;
    }

    -- at most as many terms and special slots as slots
    pub terms_few : count ≤ 512
    terms_few = omega (arith, built.count_is, ap (λ (terms : List Term). length terms) built.terms_are, best_few accepted.in_range known.right.each_band best, padded_bound accepted.slots.few_slots)

    module _ {written : Result ℕ Refusal} {before after : List ℕ}
        (record_written : BandsWritten (length profile) (nat_abs band) rest (handed_over count nodes' values') (specials_among (nat_abs band) bands) written before after) where
      -- of the first best synopsis
      of_first : BandsWritten (length profile) (nat_abs band) rest (first_synopsis profile rest bands) (specials_among (nat_abs band) bands) written before after
      of_first = subst (λ (terms : List Term). BandsWritten (length profile) (nat_abs band) rest terms (specials_among (nat_abs band) bands) written before after) built.terms_are record_written

      destination : after
          ≡ laid (granted (6 when ltb (length before) (built_length profile bands rest (nat_abs band))) (record_bytes (length profile) (nat_abs band) rest (first_synopsis profile rest bands) (specials_among (nat_abs band) bands)) []) before
      destination = rw of_first.refusal_is at of_first.destination_is

      pub record_refused : {refusal : Refusal} → written ≡ Err refusal → RecordBuilt profile bands rest (nat_abs band) before after (packed_fields (row refusal) 0 0 0)
      record_refused {refusal} wrong =
          let is = rw wrong at of_first.refusal_is in
          record {
            result_is = rw (← is) (refused_packed refusal _ _ _);
            destination_is = destination;
          }

      module _ {bytes : ℕ} (right : written ≡ Ok bytes) where
        none : 0 ≡ (6 when ltb (length before) (built_length profile bands rest (nat_abs band)))
        none = rw right at of_first.refusal_is

        bytes_are : bytes ≡ built_length profile bands rest (nat_abs band)
        bytes_are = rw right at of_first.count_is

        pub record_built : RecordBuilt profile bands rest (nat_abs band) before after (packed_fields 0 bytes count answer.error)
        record_built =
            let terms_counted : count ≡ length (first_synopsis profile rest bands) = built.count_is ∙ ap (λ (terms : List Term). length terms) built.terms_are in
            let error_is : answer.error ≡ greatest_error profile rest (first_synopsis profile rest bands) = built.error_is ∙ ap (greatest_error profile rest) built.terms_are in
            record {
              result_is = rw (← none, bytes_are, terms_counted, error_is);
              destination_is = destination;
            }

        -- the record is no longer than that of 512 terms and 512 special slots
        pub bytes_few : bytes ≤ 3273
        bytes_few =
            omega (
              arith,
              bytes_are,
              length_bound (length (first_synopsis profile rest bands)) (length (specials_among (nat_abs band) bands))
                  (omega (arith, best_few accepted.in_range known.right.each_band best, padded_bound accepted.slots.few_slots))
                  (omega (arith, few_among (nat_abs band) bands, known.right.each_band, accepted.slots.few_slots)),
            )

-- ---- text to record

pub refused_text : (text before : List ℕ) (refusal : Refusal) → row refusal ≡ text_refusal text → TextToRecord text before before (packed_fields (row refusal) 0 0 0)
refused_text text before refusal is =
    let counts : text_to_record_refusal text (length before) ≡ row refusal = rw (← is) (row_first refusal _) in
    record {
      result_is = rw counts (refused_packed refusal _ _ _);
      destination_is = sym (rw (counts, row_nothing refusal (text_record text) []));
    }

pub text_built : {text : List ℕ} {rest band : ℤ} {slots specials : ℕ} {room profile : List ℤ} {room_bands bands : List ℕ} {before after : List ℕ} {number : ℕ}
    → Held text rest band slots specials room room_bands → profile ≡ setpoints_of text → bands ≡ bands_of text → RecordBuilt profile bands rest (nat_abs band) before after number
    → TextToRecord text before after number
text_built {text} {before = before} held profile-is bands_are built = record {
  result_is = rw held.not_refused (rw (profile-is, bands_are, held.rest_is, held.band_is) at built.result_is);
  destination_is = rw held.not_refused (rw (profile-is, bands_are, held.rest_is, held.band_is) at built.destination_is);
}
