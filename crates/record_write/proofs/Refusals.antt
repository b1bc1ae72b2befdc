-- What follows where a header, terms and special slots are not refused: they can be written, and what writing them answers is the answer.
use mathlib.Core.Path.{◌≡◌, refl, sym, ap, ◌∙◌}
use mathlib.Core.Bool.{not}
use mathlib.Core.List.{List, [], ◌∷◌}
use Prim.Native.Nat.{ℕ, ◌≤◌}
use native.Mathlib.Omega.{arith}
use Rattle.std.specs.Prelude.{Result}
use lib.Dec.{T}
use lib.IntN.{ℤ, nat_abs}
use lib.ListN.{length, take}
use lib.Seq.{length-take-le}
use borrow.Author.Tests.{ltb-false, not-false}
use Rattle.limits.specs.Limits.{beyond, outside_band, outside_slots}
use Rattle.limits.proofs.Refusals.{passed, passed_last, SlotsWithin, slots_within}
use Rattle.refusals.specs.declared.Refusal.{Refusal}
use Rattle.bands.specs.declared.SpecialSlot.{SpecialSlot}
use Rattle.bands.specs.Bands.{special_slots, right_specials, slot_bands, specials_from, specials_among}
use Rattle.bands.proofs.Bands.{length_slot_bands, specials_of_bands}
use Rattle.bands.proofs.Lent.{length_specials}
use Rattle.histogram.specs.declared.Term.{Term}
use Rattle.histogram.specs.Terms.{paired, valid, Valid}
use Rattle.record.specs.Answers.{packing_refusal}
use Rattle.record_write.specs.Writing.{RecordWritten}
use Rattle.record_write.specs.Inner.{Writable, BandsWritten}

pub record Accepted (n : ℕ) (band rest : ℤ) (terms : List Term) (specials : List SpecialSlot) : Type 0 where
  pub not_refused : packing_refusal n band rest terms specials ≡ 0
  pub slots : SlotsWithin n
  pub rest_within : nat_abs rest ≤ 20000
  pub terms_valid : Valid n terms
  pub specials_right_lem : T (right_specials n (nat_abs band) specials)

module _ (n : ℕ) (band rest : ℤ) (terms : List Term) (specials : List SpecialSlot) where
  pub accepted : 0 ≡ packing_refusal n band rest terms specials → Accepted n band rest terms specials
  accepted not_refused =
      let none = sym not_refused in
      let four = passed 3 (outside_slots n) _ none in
      let two = passed 1 (beyond 20000 rest) _ four.1 in
      let three = passed 2 (outside_band band) _ two.1 in
      let eight = passed 7 (not (valid n terms)) _ three.1 in
      let eleven = passed_last 10 (not (right_specials n (nat_abs band) specials)) eight.1 in
      record {
        not_refused = none;
        slots = slots_within n four.0;
        rest_within = ltb-false 20000 (nat_abs rest) two.0;
        terms_valid = rw (not-false (valid n terms) eight.0) tt;
        specials_right_lem = rw (not-false (right_specials n (nat_abs band) specials) eleven) tt;
      }

  module _ (before : List ℕ) where
    pub as_written : {answer : Result ℕ Refusal} {after : List ℕ} → Accepted n band rest terms specials → BandsWritten n (nat_abs band) rest terms specials answer before after
        → RecordWritten n band rest terms specials answer before after
    as_written right written = record { refusal_is = rw right.not_refused written.refusal_is; count_is = written.count_is; destination_is = written.destination_is }

-- bands among which the special slots are those that are lent
pub record BandsFor (n common : ℕ) (specials own bands : List ℕ) : Type 0 where
  pub of_slots : length bands ≤ n
  pub among : specials_among common bands ≡ special_slots specials own

-- where there are none, no bands
pub no_bands : (n common : ℕ) (specials own : List ℕ) → length specials ≡ length own → length specials ≡ 0 → BandsFor n common specials own own
unfolding special_slots specials_from
no_bands n common [] [] same none = record { of_slots = omega arith; among = refl }
no_bands n common [] (band ∷ own) same none = absurd (omega arith)
no_bands n common (slot ∷ specials) own same none = absurd (omega arith)

-- and the bands that the slots go by, spread over the front of some room
pub all_bands : (n common : ℕ) (specials own room bands : List ℕ) → n ≤ length room → T (right_specials n common (special_slots specials own))
    → bands ≡ slot_bands (length (take n room)) common (special_slots specials own) → BandsFor n common specials own bands
all_bands n common specials own room bands fits right is =
    let spread : bands ≡ slot_bands n common (special_slots specials own) = rw (← length-take-le n room fits) is in
    record {
      of_slots = omega (arith, ap length spread, length_slot_bands n common (special_slots specials own));
      among = ap (specials_among common) spread ∙ specials_of_bands common n (special_slots specials own) right;
    }

pub writable : {n : ℕ} {band rest : ℤ} {nodes : List ℕ} {values : List ℤ} {specials own bands : List ℕ} → length nodes ≡ length values → length specials ≡ length own
    → Accepted n band rest (paired nodes values) (special_slots specials own) → BandsFor n (nat_abs band) specials own bands → Writable n (nat_abs band) nodes values bands (length specials)
writable {specials} {own} paired-terms paired-specials right bands_are = record {
  some_slot = right.slots.some_slot;
  few_slots = right.slots.few_slots;
  terms_paired = paired-terms;
  terms_valid = right.terms_valid;
  bands_of_slots = bands_are.of_slots;
  specials_counted = sym (ap length bands_are.among ∙ length_specials specials own paired-specials);
}
