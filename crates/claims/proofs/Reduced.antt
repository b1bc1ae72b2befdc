-- What is left to show of a best synopsis and of the least band, by the theory's number of fewest terms.
-- A synopsis that keeps its bands less a margin has that margin: `has_margin`; and where one margin more needs more terms, none as short has more: `no_greater_margin`.
-- The least band needs no more than the budget, and a band just below it does: `least_band_lem`.
use mathlib.Core.Path.{◌≡◌, refl, ap₂, subst}
use mathlib.Core.Logic.{⊎_elim}
use mathlib.Core.List.{List, [], ◌∷◌}
use Prim.Native.Nat.{ℕ, suc, ◌+◌, ◌-◌, ◌≤◌, ◌<◌}
use native.Mathlib.Omega.{arith}
use lib.IntN.{ℤ}
use lib.ListN.{length, get_or, length-map, get_or-map}
use Rattle.bands.specs.Bands.{band_at}
use Rattle.bands.proofs.Bands.{band_of_slot}
use Rattle.histogram.specs.declared.Term.{Term}
use Rattle.histogram.specs.Tree.{height}
use Rattle.histogram.specs.Errors.{slots_of, slot_error, slot_band, least_margin}
use Rattle.histogram.proofs.Margins.{margin_everywhere, margin_least}
use Rattle.histogram.proofs.Order.{below_or_not}
use Rattle.fewest.specs.Tree.{binary}
use Rattle.fewest.proofs.Fewest.{keeping_needs_fewest}
use Rattle.fewest.proofs.Wider.{wider_needs_no_more}
use Rattle.claims.specs.Best.{InRange, KeepingSynopsis, one_band}
use Rattle.claims.specs.LeastBand.{CanKeep, LeastBand}
use Rattle.claims.specs.Inner.{lifted, accepts, term_node, term_value, fewest_terms, narrowed, Spared}
use Rattle.claims.proofs.Theory.{wider_accepts, valid_is_listed, keeps_in_theory}
use Rattle.claims.proofs.Exists.{budget_suffices}

-- wider bands need no more terms
pub wider_bands : (profile : List ℤ) (rest : ℤ) (narrow wide : List ℕ) → ((slot : ℕ) → slot < slots_of profile → slot_band narrow slot ≤ slot_band wide slot)
    → fewest_terms profile rest wide ≤ fewest_terms profile rest narrow
wider_bands profile rest narrow wide wider =
    wider_needs_no_more binary (accepts profile narrow) (accepts profile wide) 40000 (wider_accepts profile narrow wide wider) (height (length profile)) (lifted rest)

-- a slot's band less a margin
pub narrowed_band : (margin : ℕ) (bands : List ℕ) (slot : ℕ) → slot_band (narrowed margin bands) slot ≡ slot_band bands slot - margin
narrowed_band margin bands slot =
    let nothing : 0 - margin ≡ 0 = omega arith in
    subst (λ (otherwise : ℕ). get_or (narrowed margin bands) slot otherwise ≡ slot_band bands slot - margin) nothing (get_or-map (λ band. band - margin) bands slot 0)

-- the band of a slot where there is one for all
pub one_band_lem : (profile : List ℤ) (band slot : ℕ) → slot < slots_of profile → slot_band (one_band profile band) slot ≡ band
unfolding band_at
one_band_lem profile band slot counts = band_of_slot (length profile) band [] slot counts

-- no margin leaves bands as they are
pub length_narrowed : (margin : ℕ) (bands : List ℕ) → length (narrowed margin bands) ≡ length bands
length_narrowed margin bands = length-map bands (λ band. band - margin)

pub narrowed_none : (bands : List ℕ) → narrowed 0 bands ≡ bands
narrowed_none [] = refl
narrowed_none (band ∷ bands) = let same : band - 0 ≡ band = omega arith in ap₂ (λ (first : ℕ) (rest : List ℕ). first ∷ rest) same (narrowed_none bands)

-- one band for all slots less a margin is one band for all slots
pub narrowed_one_band : (profile : List ℤ) (rest : ℤ) (band margin : ℕ) → fewest_terms profile rest (narrowed margin (one_band profile band)) ≡ fewest_terms profile rest (one_band profile (band - margin))
narrowed_one_band profile rest band margin =
    let same : (slot : ℕ) → slot < slots_of profile → slot_band (narrowed margin (one_band profile band)) slot ≡ slot_band (one_band profile (band - margin)) slot =
    λ slot counts. omega (arith, narrowed_band margin (one_band profile band) slot, one_band_lem profile band slot counts, one_band_lem profile (band - margin) slot counts) in
    omega (
      arith,
      wider_bands profile rest (narrowed margin (one_band profile band)) (one_band profile (band - margin)) (λ slot counts. omega (arith, same slot counts)),
      wider_bands profile rest (one_band profile (band - margin)) (narrowed margin (one_band profile band)) (λ slot counts. omega (arith, same slot counts)),
    )

-- a wider one for all slots needs no more terms
pub wider_band : (profile : List ℤ) (rest : ℤ) (narrow wide : ℕ) → narrow ≤ wide → fewest_terms profile rest (one_band profile wide) ≤ fewest_terms profile rest (one_band profile narrow)
wider_band profile rest narrow wide wider =
    wider_bands profile rest (one_band profile narrow) (one_band profile wide) (λ slot counts. omega (arith, one_band_lem profile narrow slot counts, one_band_lem profile wide slot counts))

module _ {profile : List ℤ} {rest : ℤ} (in_range : InRange profile rest) where
  -- every synopsis that keeps its bands has at least the fewest terms
  pub synopsis_needs : {bands : List ℕ} {terms : List Term} → KeepingSynopsis profile rest bands terms → fewest_terms profile rest bands ≤ length terms
  synopsis_needs {bands} {terms} synopsis =
      keeping_needs_fewest term_node term_value binary (accepts profile bands) 40000 (height (length profile)) (lifted rest) terms
      (valid_is_listed (length profile) terms synopsis.valid) (keeps_in_theory in_range terms synopsis.valid bands synopsis.keeps)

  module _ {bands : List ℕ} {terms : List Term} where
    -- a synopsis that keeps its bands less a margin keeps them
    pub keeps_wider : (margin : ℕ) → KeepingSynopsis profile rest (narrowed margin bands) terms → KeepingSynopsis profile rest bands terms
    keeps_wider margin synopsis = record {
      valid = synopsis.valid;
      keeps = record { every_slot = λ slot counts. omega (arith, synopsis.keeps.every_slot slot counts, narrowed_band margin bands slot) };
    }

    -- and has that margin in every slot
    pub has_margin : (margin : ℕ) → 1 ≤ slots_of profile → Spared profile bands margin → KeepingSynopsis profile rest (narrowed margin bands) terms → margin ≤ least_margin profile rest terms bands
    has_margin margin some spared synopsis =
        margin_least profile rest terms bands margin some
        (λ slot counts. omega (arith, synopsis.keeps.every_slot slot counts, narrowed_band margin bands slot, spared.each slot counts))

    module _ (synopsis : KeepingSynopsis profile rest bands terms) where
      every_margin : {margin : ℕ} → margin ≤ least_margin profile rest terms bands → (slot : ℕ) → slot < slots_of profile → slot_error profile rest terms slot + margin ≤ slot_band bands slot
      every_margin {margin} within = margin_everywhere profile rest terms bands margin synopsis.keeps within

      -- a margin that a synopsis has is one that every slot's band leaves room for
      pub margin_spared : {margin : ℕ} → margin ≤ least_margin profile rest terms bands → Spared profile bands margin
      margin_spared within = record { each = λ slot counts. omega (arith, every_margin within slot counts) }

      -- and it keeps its bands less that margin
      pub keeps_narrowed : {margin : ℕ} → margin ≤ least_margin profile rest terms bands → KeepingSynopsis profile rest (narrowed margin bands) terms
      keeps_narrowed {margin} within = record {
        valid = synopsis.valid;
        keeps = record { every_slot = λ slot counts. omega (arith, every_margin within slot counts, narrowed_band margin bands slot) };
      }

      -- where one margin more needs more terms than a synopsis has, its least margin is no greater
      pub no_greater_margin : (margin : ℕ) → (Spared profile bands (suc margin) → length terms < fewest_terms profile rest (narrowed (suc margin) bands))
          → least_margin profile rest terms bands ≤ margin
      no_greater_margin margin needs-more =
          ⊎_elim
          (λ greater. absurd (omega (arith, needs-more (margin_spared greater), synopsis_needs (keeps_narrowed greater))))
          (λ not-greater. not-greater)
          (below_or_not margin (least_margin profile rest terms bands))

  -- a band that can be kept within a budget needs no more terms than the budget
  pub budget_needs : {budget band : ℕ} → CanKeep profile rest budget band → fewest_terms profile rest (one_band profile band) ≤ budget
  budget_needs can = omega (arith, synopsis_needs can.synopsis, can.within_budget)

  pub least_band_lem : {budget least : ℕ} → fewest_terms profile rest (one_band profile least) ≤ budget
      → (0 < least → budget < fewest_terms profile rest (one_band profile (least - 1))) → LeastBand profile rest budget least
  least_band_lem {budget} {least} within needs-more = record {
    enough = λ band wide. budget_suffices in_range band (omega (arith, within, wider_band profile rest least band wide));
    needed = λ band can.
        ⊎_elim
        (λ below. absurd (omega (arith, needs-more (omega arith), wider_band profile rest band (least - 1) (omega arith), budget_needs can)))
        (λ not_below. not_below)
        (below_or_not band least);
  }
