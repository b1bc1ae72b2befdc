-- A profile without special slots goes by one band: there the least margin is the band less the greatest error, and a best synopsis is what demand 3 says word for word.
use mathlib.Core.Path.{◌≡◌}
use mathlib.Core.List.{List}
use Prim.Native.Nat.{ℕ, ◌-◌, ◌≤◌}
use native.Mathlib.Omega.{arith}
use lib.IntN.{ℤ}
use Rattle.histogram.specs.declared.Term.{Term}
use Rattle.histogram.specs.Errors.{slots_of, greatest_error, least_margin}
use Rattle.histogram.proofs.Margins.{keeps_greatest, margin_of_one_band}
use Rattle.claims.specs.Best.{KeepingSynopsis, Best, one_band, BestForOneBand}
use Rattle.claims.proofs.Reduced.{one_band_lem}

module _ (profile : List ℤ) (rest : ℤ) (band : ℕ) (some_slot : 1 ≤ slots_of profile) where
  pub margin_is : (terms : List Term) → least_margin profile rest terms (one_band profile band) ≡ band - greatest_error profile rest terms
  margin_is terms = margin_of_one_band profile rest terms (one_band profile band) band (one_band_lem profile band) some_slot

  error_within : {terms : List Term} → KeepingSynopsis profile rest (one_band profile band) terms → greatest_error profile rest terms ≤ band
  error_within {terms} synopsis = keeps_greatest profile rest terms (one_band profile band) band (one_band_lem profile band) synopsis.keeps

  pub best_for_one_band : {terms : List Term} → Best profile rest (one_band profile band) terms → BestForOneBand profile rest band terms
  best_for_one_band {terms} best = record {
    synopsis = best.synopsis;
    fewest = best.fewest;
    least_error = λ other keeping as_many.
        omega (arith, best.greatest_margin other keeping as_many, margin_is terms, margin_is other, error_within best.synopsis, error_within keeping);
  }

  pub one_band_best : {terms : List Term} → BestForOneBand profile rest band terms → Best profile rest (one_band profile band) terms
  one_band_best {terms} best = record {
    synopsis = best.synopsis;
    fewest = best.fewest;
    greatest_margin = λ other keeping as_many. omega (arith, best.least_error other keeping as_many, margin_is terms, margin_is other);
  }
