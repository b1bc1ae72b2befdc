-- The answers of building: a refusal with nothing handed over and all memory as it was, or the first best synopsis.
-- What the contract says of the terms by an equation is demand 3 in propositions, with document 02's F-5 and F-6: `built_first`; without special slots it is demand 3 word for word: `built_for_one_band`.
use mathlib.Core.Path.{◌≡◌, refl, sym, ◌∙◌}
use mathlib.Core.List.{List, []}
use Prim.Native.Nat.{ℕ}
use native.Mathlib.Omega.{arith}
use lib.IntN.{ℤ, nat_abs}
use lib.ListN.{length}
use Rattle.std.specs.Prelude.{Result, Ok, Err}
use Rattle.limits.proofs.Refusals.{none_of_two}
use Rattle.refusals.specs.declared.Refusal.{Refusal}
use Rattle.refusals.specs.Rows.{row}
use Rattle.refusals.specs.Answers.{refused_with}
use Rattle.refusals.proofs.Rows.{row_nothing}
use Rattle.bands.specs.declared.SpecialSlot.{SpecialSlot}
use Rattle.bands.specs.Bands.{slot_bands}
use Rattle.histogram.specs.declared.Term.{Term}
use Rattle.histogram.specs.Terms.{paired}
use Rattle.histogram.specs.Errors.{greatest_error}
use Rattle.claims.specs.Best.{BestForOneBand}
use Rattle.claims.specs.First.{First, first_synopsis}
use Rattle.claims.proofs.First.{synopsis_first}
use Rattle.claims.proofs.OneBand.{best_for_one_band}
use Rattle.build.specs.declared.BuiltSynopsis.{BuiltSynopsis}
use Rattle.build.specs.Building.{values_refusal, build_refusal, Built, handed_over, MemoryLeft}
use Rattle.build.specs.Inner.{FirstBuilt}
use Rattle.build.proofs.Accepted.{ProfileAccepted, profile_accepted}

module _ (profile : List ℤ) (rest band : ℤ) (specials : List SpecialSlot) (nodes : List ℕ) (values scratch : List ℤ) where
  -- the bands that the slots go by
  abbrev bands : List ℕ
  bands = slot_bands (length profile) (nat_abs band) specials

  pub refused : (refusal : Refusal) → row refusal ≡ build_refusal profile rest band specials (length nodes) (length scratch)
      → Built profile rest band specials (length nodes) (length scratch) (Err refusal) (handed_over 0 nodes values) × MemoryLeft (Err refusal) nodes nodes values values scratch scratch
  unfolding paired
  refused refusal is = (
    record {
      refusal_is = is;
      terms_are = sym (row_nothing refusal (first_synopsis profile rest bands) []);
      count_is = refl;
      error_is = sym (row_nothing refusal (greatest_error profile rest []) 0);
    },
    record { nodes_past = refl; values_past = refl; scratch_refused = λ some. refl },
  )

  pub handed : build_refusal profile rest band specials (length nodes) (length scratch) ≡ 0 → (synopsis : BuiltSynopsis) (nodes' : List ℕ) (values' scratch' : List ℤ)
      → FirstBuilt profile rest bands synopsis nodes nodes' values values'
      → Built profile rest band specials (length nodes) (length scratch) (Ok synopsis) (handed_over synopsis.count nodes' values')
      × MemoryLeft (Ok synopsis) nodes nodes' values values' scratch scratch'
  handed right synopsis nodes' values' scratch' built = (
    record {
      refusal_is = sym right;
      terms_are = built.terms_are;
      count_is = built.count_is;
      error_is = built.error_is;
    },
    record { nodes_past = built.nodes_past; values_past = built.values_past; scratch_refused = λ some. absurd (omega arith) },
  )

-- a profile that is built is accepted
pub built_accepted : {profile : List ℤ} {rest band : ℤ} {specials : List SpecialSlot} {places numbers : ℕ} {answer : Result BuiltSynopsis Refusal} {terms : List Term}
    → Built profile rest band specials places numbers answer terms → refused_with answer ≡ 0 → ProfileAccepted profile rest
built_accepted {profile} {rest} built right = profile_accepted profile rest (none_of_two (values_refusal profile rest) _ (sym built.refusal_is ∙ right)).0

-- what building hands over where nothing is refused is the first of the best synopses
pub built_first : {profile : List ℤ} {rest band : ℤ} {specials : List SpecialSlot} {places numbers : ℕ} {answer : Result BuiltSynopsis Refusal} {terms : List Term}
    → Built profile rest band specials places numbers answer terms → refused_with answer ≡ 0 → First profile rest (slot_bands (length profile) (nat_abs band) specials) terms
built_first {profile} {rest} {band} {specials} built right =
    let accepted = built_accepted built right in
    rw (rw right at built.terms_are) (synopsis_first accepted.in_range accepted.slots.some_slot (slot_bands (length profile) (nat_abs band) specials))

-- without special slots it is what demand 3 says word for word: none that keeps the band has fewer terms, and none with as many a smaller greatest error
pub built_for_one_band : {profile : List ℤ} {rest band : ℤ} {places numbers : ℕ} {answer : Result BuiltSynopsis Refusal} {terms : List Term}
    → Built profile rest band [] places numbers answer terms → refused_with answer ≡ 0 → BestForOneBand profile rest (nat_abs band) terms
built_for_one_band {profile} {rest} {band} built right =
    best_for_one_band profile rest (nat_abs band) (built_accepted built right).slots.some_slot (built_first built right).best
