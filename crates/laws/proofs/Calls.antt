-- What follows from a successful call of building.
use mathlib.Core.Path.{◌≡◌, refl, sym, ap, ◌∙◌, subst}
use mathlib.Core.List.{List}
use Prim.Native.Nat.{ℕ, ◌≤◌}
use lib.IntN.{ℤ, nat_abs}
use lib.ListN.{length, get_or}
use Rattle.bands.proofs.Bands.{length_slot_bands, bands_within}
use Rattle.histogram.specs.declared.Term.{Term}
use Rattle.histogram.specs.Errors.{least_margin}
use Rattle.claims.specs.Best.{Best}
use Rattle.build.specs.declared.BuiltSynopsis.{BuiltSynopsis}
use Rattle.build.specs.Building.{build_refusal}
use Rattle.build.proofs.Accepted.{ProfileAccepted, band_within, specials_accepted}
use Rattle.build.proofs.Answers.{built_accepted, built_first}
use Rattle.laws.specs.Numbers.{BestNumbers}
use Rattle.laws.specs.Calls.{Answered}

module _ {profile : List ℤ} {rest : ℤ} {bands : List ℕ} {answer : BuiltSynopsis} {terms : List Term} (answered : Answered profile rest bands answer terms) where
  pub none_refused : build_refusal profile rest answered.band answered.specials answered.places answered.numbers ≡ 0
  none_refused = sym answered.built.refusal_is

  pub answered_accepted : ProfileAccepted profile rest
  answered_accepted = built_accepted answered.built refl

  -- each slot has a band, within 0 to 40,000
  pub each_band : length bands ≡ length profile
  each_band = ap length (sym answered.bands_are) ∙ length_slot_bands (length profile) (nat_abs answered.band) answered.specials

  pub each_within : (slot : ℕ) → get_or bands slot 0 ≤ 40000
  each_within slot =
      subst (λ (list : List ℕ). get_or list slot 0 ≤ 40000) answered.bands_are
      (bands_within (nat_abs answered.band) (length profile) answered.specials (band_within profile rest answered.band answered.specials answered.places answered.numbers none_refused)
      (specials_accepted profile rest answered.band answered.specials answered.places answered.numbers none_refused) slot)

  -- what is handed over is a best synopsis, so its count and its least margin are the numbers of one
  answered_best : Best profile rest bands terms
  answered_best = rw answered.bands_are at (built_first answered.built refl).best

  pub answered_numbers : BestNumbers profile rest bands answer.count (least_margin profile rest terms bands)
  answered_numbers = record { terms = terms; best = answered_best; count_is = sym answered.built.count_is; margin_is = refl }
