-- The check's ways out: each refusal in its turn, and the verdict where none is left.
use mathlib.Core.Path.{◌≡◌, refl, sym, ◌∙◌}
use mathlib.Core.Bool.{true, false}
use mathlib.Core.List.{List}
use Prim.Native.Nat.{ℕ, ◌≤◌}
use native.Mathlib.Omega.{arith}
use lib.IntN.{ℤ, pos, nat_abs}
use lib.ListN.{length, take}
use borrow.Author.Tests.{eq-eqb, ne_eqb, ltb-false}
use Rattle.limits.specs.Limits.{outside_slots, any_beyond}
use Rattle.limits.proofs.Refusals.{slots_within}
use Rattle.bands.proofs.Bands.{length_slot_bands, bands_within}
use Rattle.histogram.specs.Terms.{paired}
use Rattle.verdict.specs.Verdict.{Judged}
use Rattle.record.specs.Record.{slots_in, band_in, rest_in, terms_in, specials_in, bands_in}
use Rattle.record.specs.Answers.{record_refusal}
use Rattle.record.proofs.Sound.{sound}
use Rattle.std.specs.Prelude.{Result, Ok, Err}
use Rattle.refusals.specs.declared.Refusal.{Refusal}
use Rattle.refusals.specs.declared.Refusal.TheVariants.{SlotsBeyond, ValueBeyond, LengthDiffers}
use Rattle.refusals.specs.Answers.{refused_with}
use Rattle.refusals.specs.Rows.{row}
use Rattle.refusals.proofs.Rows.{row_first, row_nothing}
use Rattle.verdict.specs.declared.Kept.{Kept}
use Rattle.verdict.specs.declared.Beyond.{Beyond}
use Rattle.record_read.specs.declared.Header.{Header}
use Rattle.record_read.specs.Inner.{RoomRead}
use Rattle.record_read.proofs.Accepted as Accepted
use Rattle.record_check.specs.Checking.{check_refusal, Checked}
use Rattle.record_check.specs.Inner.{room_terms, RecordJudgeable}
use Rattle.record_check.proofs.Slots.{room_terms_lem}

module _ (profile : List ℤ) (bytes : List ℕ) where
  refused_as : (refusal : Refusal) → check_refusal profile bytes ≡ row refusal → Checked profile bytes (Err refusal)
  refused_as refusal is = record {
    refusal_is = sym is;
    kept_is = sym (row_nothing refusal _ false);
    error_is = refl;
    margin_is = refl;
    slot_is = sym (row_nothing refusal _ 0);
  }

  pub no_profile : outside_slots (length profile) ≡ true → Checked profile bytes (Err SlotsBeyond)
  no_profile outside = refused_as SlotsBeyond (rw outside)

  module _ (inside : outside_slots (length profile) ≡ false) where
    pub record_wrong : (refusal : Refusal) → row refusal ≡ record_refusal bytes → Checked profile bytes (Err refusal)
    record_wrong refusal is = refused_as refusal (rw (inside, ← is) (row_first refusal _))

    module _ (right : record_refusal bytes ≡ 0) where
      pub setpoint_wrong : any_beyond profile ≡ true → Checked profile bytes (Err ValueBeyond)
      setpoint_wrong far = refused_as ValueBeyond (rw (inside, right, far))

      module _ (near : any_beyond profile ≡ false) where
        pub other_length : (slots_in bytes ≡ length profile → ⊥) → Checked profile bytes (Err LengthDiffers)
        other_length differ = refused_as LengthDiffers (rw (inside, right, near, ne_eqb (slots_in bytes) (length profile) differ))

        pub verdict_given : slots_in bytes ≡ length profile → (verdict : Result Kept Beyond) → Judged profile (rest_in bytes) (terms_in bytes) (bands_in bytes) verdict
            → Checked profile bytes (Ok verdict)
        verdict_given same verdict judged = record {
          refusal_is = sym (rw (inside, right, near, eq-eqb (slots_in bytes) (length profile) same));
          kept_is = judged.kept_is;
          error_is = judged.error_is;
          margin_is = judged.margin_is;
          slot_is = judged.slot_is;
        }

-- what judging asks, and what its verdict says, of a record in the room
module _ (profile : List ℤ) {bytes : List ℕ} {answer : Result Header Refusal} {header : Header} {nodes nodes' : List ℕ} {values values' : List ℤ} {bands bands' : List ℕ}
    (read : RoomRead bytes answer nodes nodes' values values' bands bands') (right : answer ≡ Ok header) where
  pub record_right : record_refusal bytes ≡ 0
  record_right = Accepted.record_right read right

  pub rest_is : header.rest ≡ rest_in bytes
  rest_is = Accepted.rest_is read right

  pub band_is : header.band ≡ pos (band_in bytes)
  band_is = Accepted.band_is read right

  pub slots_are : header.slots ≡ slots_in bytes
  slots_are = Accepted.slots_are read right

  pub terms_are : paired (take header.count nodes') (take header.count values') ≡ terms_in bytes
  terms_are = room_terms_lem read 0 right

  pub rest_within : nat_abs header.rest ≤ 20000
  rest_within = rw rest_is (ltb-false 20000 (nat_abs (rest_in bytes)) (sound bytes record_right).rest_near)

  module _ (same : header.slots ≡ length profile) where
    -- the bands at the front of the room are the record's
    pub bands_are : take (length profile) bands' ≡ bands_in bytes
    bands_are = rw (← same) (Accepted.room_bands read right)

    pub judgeable : outside_slots (length profile) ≡ false → any_beyond profile ≡ false → RecordJudgeable profile header nodes' values' bands'
    judgeable inside near = record {
      in_nodes = Accepted.in_nodes read right;
      in_values = Accepted.in_values read right;
      in_bands = rw (← same) (Accepted.in_bands read right);
      judgeable = record {
        same_length = Accepted.nodes_counted read right ∙ sym (Accepted.values_counted read right);
        some_slot = (slots_within (length profile) inside).some_slot;
        few_slots = (slots_within (length profile) inside).few_slots;
        each_band = rw bands_are (length_slot_bands (slots_in bytes) (band_in bytes) (specials_in bytes) ∙ sym (Accepted.slots_are read right) ∙ same);
        bands_within = rw bands_are (bands_within (band_in bytes) (slots_in bytes) (specials_in bytes) (ltb-false 40000 (band_in bytes) (sound bytes record_right).band_inside) (sound bytes record_right).specials_right_lem);
        rest_within = rest_within;
        terms_valid = rw (terms_are, ← same, slots_are, (sound bytes record_right).terms_valid) tt;
        none_beyond = rw near tt;
      };
    }

    -- the verdict is the record's
    pub judged : {verdict : Result Kept Beyond} → Judged profile header.rest (room_terms header nodes' values') (take (length profile) bands') verdict → Judged profile (rest_in bytes) (terms_in bytes) (bands_in bytes) verdict
    judged verdict = rw (terms_are, rest_is, bands_are) at verdict
