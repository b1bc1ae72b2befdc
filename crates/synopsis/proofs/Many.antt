-- More than 1,023 terms are valid nowhere, nor are the first 1,024 of them; more than 512 special slots are right nowhere, nor are the first 513: the answers to the one are the answers to the other.
use mathlib.Core.Path.{◌≡◌, refl, sym, ap, subst, ◌∙◌}
use mathlib.Core.Bool.{Bool, true, false}
use mathlib.Core.List.{List, []}
use Prim.Native.Nat.{ℕ, suc, ◌*◌, ◌<◌}
use native.Mathlib.Omega.{arith}
use lib.Dec.{T, ltb, leb}
use lib.IntN.{ℤ, pos, nat_abs}
use lib.ListN.{length, take}
use lib.Pow.{pow_pos}
use Rattle.std.proofs.Common.{Result}
use lib.Seq.{take_all, length-take-le}
use borrow.Author.Tests.{ltb-true, ltb-false}
use Rattle.limits.specs.Answers.{◌when◌, ◌then◌, granted, laid}
use Rattle.limits.specs.Limits.{beyond, outside_band, outside_slots, any_beyond}
use Rattle.limits.proofs.Refusals.{slots_within, first_counts, granted_nothing}
use Rattle.bands.specs.declared.SpecialSlot.{SpecialSlot}
use Rattle.bands.specs.Bands.{right_specials, slot_bands}
use Rattle.bands.proofs.Bands.{few_specials}
use Rattle.histogram.specs.declared.Term.{Term}
use Rattle.histogram.specs.Tree.{height, padded}
use Rattle.histogram.specs.Terms.{valid}
use Rattle.histogram.specs.Restored.{restored_slot, restored_profile}
use Rattle.histogram.specs.Restoring as restoring
use Rattle.histogram.specs.Restoring.{SlotRestored, ProfileRestored}
use Rattle.histogram.proofs.Ascent.{valid_few}
use Rattle.histogram.proofs.Powers.{padded_bound}
use Rattle.record.specs.Record.{record_length, record_bytes}
use Rattle.record.specs.Answers.{packing_refusal}
use Rattle.record_write.specs.Writing.{RecordWritten}
use Rattle.claims.specs.First.{first_synopsis}
use Rattle.build.specs.Building.{build_refusal, Built}
use Rattle.build.specs.declared.BuiltSynopsis.{BuiltSynopsis}
use Rattle.refusals.specs.declared.Refusal.{Refusal}
use Rattle.refusals.specs.Answers.{refused_with}

-- an answer that is refused in either case
moved : (refusal first first' later later' : ℕ) → refusal ≡ (first then later) → first ≡ first' → 0 < first' → refusal ≡ (first' then later')
moved refusal first first' later later' is same wrong = is ∙ first_counts first later (omega (arith, same)) ∙ same ∙ sym (first_counts first' later' wrong)

still_wrong : (refusal first later : ℕ) → refusal ≡ (first then later) → 0 < first → 0 < refusal
still_wrong refusal first later is wrong = omega (arith, is ∙ first_counts first later wrong)

regranted : {A : Type 0} (refusal : ℕ) (result other nothing : A) → 0 < refusal → granted refusal result nothing ≡ granted refusal other nothing
regranted refusal result other nothing wrong = granted_nothing refusal result nothing wrong ∙ sym (granted_nothing refusal other nothing wrong)

-- what holds of the first of a list, one more than `few`, holds of the list, if it does so where it is longer
of_all : {D : Type 0} (few : ℕ) {first : List D} (Says : List D → Type 0) (all : List D) → first ≡ take (suc few) all
    → (few < length (take (suc few) all) → few < length all → Says (take (suc few) all) → Says all) → Says first → Says all
of_all few Says all first_is where-many said = by_many (ltb few (length all)) refl (subst Says first_is said)
  where
    by_many : (many : Bool) → ltb few (length all) ≡ many → Says (take (suc few) all) → Says all
    by_many true is =
        let beyond_room : few < length all = ltb-true few (length all) is in
        where-many (omega (arith, length-take-le (suc few) all beyond_room)) beyond_room
    by_many false is = subst Says (take_all (suc few) all (omega (arith, ltb-false few (length all) is)))

many_invalid : (terms : List Term) → 1023 < length terms → (n : ℕ) → outside_slots n ≡ false → valid n terms ≡ false
many_invalid terms many n inside = by_test (valid n terms) refl
  where
    by_test : (right : Bool) → valid n terms ≡ right → valid n terms ≡ false
    by_test false is = is
    by_test true is = absurd (omega (arith, valid_few {last = 0} {end = 2 * padded n} terms (omega (arith, pow_pos (height n))) (record { passes = subst T (sym is) tt }), padded_bound (slots_within n inside).few_slots, many))

many_wrong : (specials : List SpecialSlot) → 512 < length specials → (n common : ℕ) → outside_slots n ≡ false → right_specials n common specials ≡ false
many_wrong specials many n common inside = by_test (right_specials n common specials) refl
  where
    by_test : (right : Bool) → right_specials n common specials ≡ right → right_specials n common specials ≡ false
    by_test false is = is
    by_test true is = absurd (omega (arith, few_specials common n specials (subst T (sym is) tt), (slots_within n inside).few_slots, many))

-- two lists of more than 1,023 terms
module _ (first terms : List Term) (many-first : 1023 < length first) (many : 1023 < length terms) where
  -- the refusals of restoring
  same_restoring : (n : ℕ) (rest : ℤ) → restoring.synopsis_refusal n rest first ≡ restoring.synopsis_refusal n rest terms
  same_restoring n rest = by_slots (outside_slots n) refl
    where
      by_slots : (outside : Bool) → outside_slots n ≡ outside → restoring.synopsis_refusal n rest first ≡ restoring.synopsis_refusal n rest terms
      by_slots true is = rw is refl
      by_slots false is = rw (many_invalid terms many n is, many_invalid first many-first n is) refl

  restoring_refused : (n : ℕ) (rest : ℤ) → 0 < restoring.synopsis_refusal n rest terms
  restoring_refused n rest = by_tests (outside_slots n) refl (beyond 20000 rest) refl
    where
      by_tests : (outside : Bool) → outside_slots n ≡ outside → (far : Bool) → beyond 20000 rest ≡ far → 0 < restoring.synopsis_refusal n rest terms
      by_tests true is far far-is = rw is (omega arith)
      by_tests false is true far-is = rw (is, far-is) (omega arith)
      by_tests false is false far-is = rw (is, far-is, many_invalid terms many n is) (omega arith)

  -- the refusals of writing
  same_packing : (n : ℕ) (band rest : ℤ) (specials : List SpecialSlot) → packing_refusal n band rest first specials ≡ packing_refusal n band rest terms specials
  same_packing n band rest specials = by_slots (outside_slots n) refl
    where
      by_slots : (outside : Bool) → outside_slots n ≡ outside → packing_refusal n band rest first specials ≡ packing_refusal n band rest terms specials
      by_slots true is = rw is refl
      by_slots false is = rw (many_invalid terms many n is, many_invalid first many-first n is) refl

  packing_refused : (n : ℕ) (band rest : ℤ) (specials : List SpecialSlot) → 0 < packing_refusal n band rest terms specials
  packing_refused n band rest specials = by_tests (outside_slots n) refl (beyond 20000 rest) refl (outside_band band) refl
    where
      by_tests : (outside : Bool) → outside_slots n ≡ outside → (far : Bool) → beyond 20000 rest ≡ far → (wide : Bool) → outside_band band ≡ wide → 0 < packing_refusal n band rest terms specials
      by_tests true is far far-is wide wide_is = rw is (omega arith)
      by_tests false is true far-is wide wide_is = rw (is, far-is) (omega arith)
      by_tests false is false far-is true wide_is = rw (is, far-is, wide_is) (omega arith)
      by_tests false is false far-is false wide_is = rw (is, far-is, wide_is, many_invalid terms many n is) (omega arith)

  many_slot : (n : ℕ) (rest : ℤ) (slot refusal : ℕ) (setpoint : ℤ) → SlotRestored n rest first slot refusal setpoint → SlotRestored n rest terms slot refusal setpoint
  many_slot n rest slot refusal setpoint said =
      let is = moved refusal _ _ _ (10 when leb n slot) said.refusal_is (same_restoring n rest) (restoring_refused n rest) in
      record {
        refusal_is = is;
        setpoint_is = said.setpoint_is ∙ regranted refusal _ (restored_slot n rest terms slot) (pos 0) (still_wrong refusal _ _ is (restoring_refused n rest));
      }

  many_profile : (n : ℕ) (rest : ℤ) (refusal : ℕ) (before after : List ℤ) → ProfileRestored n rest first refusal before after → ProfileRestored n rest terms refusal before after
  many_profile n rest refusal before after said =
      let is = moved refusal _ _ _ (6 when ltb (length before) n) said.refusal_is (same_restoring n rest) (restoring_refused n rest) in
      record {
        refusal_is = is;
        destination_is = said.destination_is ∙ ap (λ (l : List ℤ). laid l before) (regranted refusal _ (restored_profile n rest terms) [] (still_wrong refusal _ _ is (restoring_refused n rest)));
      }

-- two lists of more than 512 special slots
module _ (first specials : List SpecialSlot) (many-first : 512 < length first) (many : 512 < length specials) where
  -- the refusals of writing
  same_specials : (n : ℕ) (band rest : ℤ) (terms : List Term) → packing_refusal n band rest terms first ≡ packing_refusal n band rest terms specials
  same_specials n band rest terms = by_slots (outside_slots n) refl
    where
      by_slots : (outside : Bool) → outside_slots n ≡ outside → packing_refusal n band rest terms first ≡ packing_refusal n band rest terms specials
      by_slots true is = rw is refl
      by_slots false is = rw (many_wrong specials many n (nat_abs band) is, many_wrong first many-first n (nat_abs band) is) refl

  specials_refused : (n : ℕ) (band rest : ℤ) (terms : List Term) → 0 < packing_refusal n band rest terms specials
  specials_refused n band rest terms = by_tests (outside_slots n) refl (beyond 20000 rest) refl (outside_band band) refl (valid n terms) refl
    where
      by_tests : (outside : Bool) → outside_slots n ≡ outside → (far : Bool) → beyond 20000 rest ≡ far → (wide : Bool) → outside_band band ≡ wide → (right : Bool) → valid n terms ≡ right → 0 < packing_refusal n band rest terms specials
      by_tests true is far far-is wide wide_is right right_is = rw is (omega arith)
      by_tests false is true far-is wide wide_is right right_is = rw (is, far-is) (omega arith)
      by_tests false is false far-is true wide_is right right_is = rw (is, far-is, wide_is) (omega arith)
      by_tests false is false far-is false wide_is false right_is = rw (is, far-is, wide_is, right_is) (omega arith)
      by_tests false is false far-is false wide_is true right_is = rw (is, far-is, wide_is, right_is, many_wrong specials many n (nat_abs band) is) (omega arith)

  -- the refusals of building
  same_building : (profile : List ℤ) (rest band : ℤ) (places numbers : ℕ) → build_refusal profile rest band first places numbers ≡ build_refusal profile rest band specials places numbers
  same_building profile rest band places numbers = by_slots (outside_slots (length profile)) refl
    where
      by_slots : (outside : Bool) → outside_slots (length profile) ≡ outside → build_refusal profile rest band first places numbers ≡ build_refusal profile rest band specials places numbers
      by_slots true is = rw is refl
      by_slots false is = rw (many_wrong specials many (length profile) (nat_abs band) is, many_wrong first many-first (length profile) (nat_abs band) is) refl

  building_refused : (profile : List ℤ) (rest band : ℤ) (places numbers : ℕ) → 0 < build_refusal profile rest band specials places numbers
  building_refused profile rest band places numbers = by_tests (outside_slots (length profile)) refl (beyond 20000 rest) refl (any_beyond profile) refl (outside_band band) refl
    where
      by_tests : (outside : Bool) → outside_slots (length profile) ≡ outside → (far : Bool) → beyond 20000 rest ≡ far → (some-far : Bool) → any_beyond profile ≡ some-far → (wide : Bool) → outside_band band ≡ wide
          → 0 < build_refusal profile rest band specials places numbers
      by_tests true is far far-is some-far some_is wide wide_is = rw is (omega arith)
      by_tests false is true far-is some-far some_is wide wide_is = rw (is, far-is) (omega arith)
      by_tests false is false far-is true some_is wide wide_is = rw (is, far-is, some_is) (omega arith)
      by_tests false is false far-is false some_is true wide_is = rw (is, far-is, some_is, wide_is) (omega arith)
      by_tests false is false far-is false some_is false wide_is = rw (is, far-is, some_is, wide_is, many_wrong specials many (length profile) (nat_abs band) is) (omega arith)

  many_built : (profile : List ℤ) (rest band : ℤ) (places numbers : ℕ) (answer : Result BuiltSynopsis Refusal) (terms : List Term) → Built profile rest band first places numbers answer terms → Built profile rest band specials places numbers answer terms
  many_built profile rest band places numbers answer terms said =
      let is : (refused_with answer) ≡ build_refusal profile rest band specials places numbers = said.refusal_is ∙ same_building profile rest band places numbers in
      let wrong : 0 < (refused_with answer) = omega (arith, is, building_refused profile rest band places numbers) in
      record {
        refusal_is = is;
        terms_are = said.terms_are ∙ regranted (refused_with answer) _ (first_synopsis profile rest (slot_bands (length profile) (nat_abs band) specials)) [] wrong;
        count_is = said.count_is;
        error_is = said.error_is;
      }

-- a record that was written of other lists, which are refused as well
rewritten : (n : ℕ) (band rest : ℤ) (first terms : List Term) (first-specials specials : List SpecialSlot) (answer : Result ℕ Refusal) (before after : List ℕ)
    → packing_refusal n band rest first first-specials ≡ packing_refusal n band rest terms specials → 0 < packing_refusal n band rest terms specials
    → RecordWritten n band rest first first-specials answer before after → RecordWritten n band rest terms specials answer before after
rewritten n band rest first terms first-specials specials answer before after same wrong-packing said =
    let is = moved (refused_with answer) _ _ _ (6 when ltb (length before) (record_length (length terms) (length specials))) said.refusal_is same wrong-packing in
    let wrong : 0 < (refused_with answer) = still_wrong (refused_with answer) _ _ is wrong-packing in
    record {
      refusal_is = is;
      count_is = said.count_is ∙ regranted (refused_with answer) _ (record_length (length terms) (length specials)) 0 wrong;
      destination_is = said.destination_is ∙ ap (λ (l : List ℕ). laid l before) (regranted (refused_with answer) _ (record_bytes n (nat_abs band) rest terms specials) [] wrong);
    }

-- the answers, of the list of terms that is lent
module _ (terms : List Term) {first : List Term} (first_is : first ≡ take 1024 terms) where
  pub slot_restored : {n : ℕ} {rest : ℤ} {slot refusal : ℕ} {setpoint : ℤ} → SlotRestored n rest first slot refusal setpoint → SlotRestored n rest terms slot refusal setpoint
  slot_restored {n} {rest} {slot} {refusal} {setpoint} =
      of_all 1023 (λ (l : List Term). SlotRestored n rest l slot refusal setpoint) terms first_is (λ many-first many. many_slot (take 1024 terms) terms many-first many n rest slot refusal setpoint)

  pub profile_restored : {n : ℕ} {rest : ℤ} {refusal : ℕ} {before after : List ℤ} → ProfileRestored n rest first refusal before after → ProfileRestored n rest terms refusal before after
  profile_restored {n} {rest} {refusal} {before} {after} =
      of_all 1023 (λ (l : List Term). ProfileRestored n rest l refusal before after) terms first_is (λ many-first many. many_profile (take 1024 terms) terms many-first many n rest refusal before after)

  pub record_written : (specials : List SpecialSlot) {first-specials : List SpecialSlot} → first-specials ≡ take 513 specials → {n : ℕ} {band rest : ℤ} {answer : Result ℕ Refusal} {before after : List ℕ}
      → RecordWritten n band rest first first-specials answer before after → RecordWritten n band rest terms specials answer before after
  record_written specials {first-specials} specials-are {n} {band} {rest} {answer} {before} {after} said =
      of_all 512 (λ (l : List SpecialSlot). RecordWritten n band rest terms l answer before after) specials specials-are
      (λ many-first many. rewritten n band rest terms terms (take 513 specials) specials answer before after (same_specials (take 513 specials) specials many-first many n band rest terms) (specials_refused (take 513 specials) specials many-first many n band rest terms))
      (of_all 1023 (λ (l : List Term). RecordWritten n band rest l first-specials answer before after) terms first_is
      (λ many-first many. rewritten n band rest (take 1024 terms) terms first-specials first-specials answer before after (same_packing (take 1024 terms) terms many-first many n band rest first-specials) (packing_refused (take 1024 terms) terms many-first many n band rest first-specials))
      said)

-- the answers of building, of the list of special slots that is lent
pub built_for : (specials : List SpecialSlot) {first : List SpecialSlot} → first ≡ take 513 specials → {profile : List ℤ} {rest band : ℤ} {places numbers : ℕ} {answer : Result BuiltSynopsis Refusal} {terms : List Term}
    → Built profile rest band first places numbers answer terms → Built profile rest band specials places numbers answer terms
built_for specials first_is {profile} {rest} {band} {places} {numbers} {answer} {terms} =
    of_all 512 (λ (l : List SpecialSlot). Built profile rest band l places numbers answer terms) specials first_is
    (λ many-first many. many_built (take 513 specials) specials many-first many profile rest band places numbers answer terms)
