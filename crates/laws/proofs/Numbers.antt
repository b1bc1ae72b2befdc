-- For a profile of a slot or more, with setpoints and rest value in range, there is exactly one number of fewest terms, and one term count and one least margin of the best synopses.
use mathlib.Core.Path.{◌≡◌, refl}
use mathlib.Core.List.{List}
use Prim.Native.Nat.{ℕ, ◌≤◌}
use native.Mathlib.Omega.{arith}
use lib.IntN.{ℤ}
use lib.ListN.{length}
use Rattle.histogram.specs.Errors.{slots_of, least_margin}
use Rattle.claims.specs.Best.{InRange}
use Rattle.claims.specs.First.{first_synopsis}
use Rattle.claims.specs.Inner.{fewest_terms}
use Rattle.claims.proofs.Exists.{walked_terms, walked_keeps, walked_as_few}
use Rattle.claims.proofs.Reduced.{synopsis_needs}
use Rattle.claims.proofs.First.{synopsis_first}
use Rattle.laws.specs.Numbers.{FewestTerms, BestNumbers}

module _ {profile : List ℤ} {rest : ℤ} {bands : List ℕ} where
  pub fewest_only : {count other : ℕ} → FewestTerms profile rest bands count → FewestTerms profile rest bands other → count ≡ other
  fewest_only one two =
      omega (arith, one.none_fewer two.terms two.synopsis, two.none_fewer one.terms one.synopsis, one.count_is, two.count_is)

  -- the count of best synopses is that of the fewest terms
  pub best_fewest : {count margin : ℕ} → BestNumbers profile rest bands count margin → FewestTerms profile rest bands count
  best_fewest numbers = record {
    terms = numbers.terms;
    synopsis = numbers.best.synopsis;
    count_is = numbers.count_is;
    none_fewer = λ other keeping. omega (arith, numbers.best.fewest other keeping, numbers.count_is);
  }

  pub best_only : {count margin count' margin' : ℕ} → BestNumbers profile rest bands count margin → BestNumbers profile rest bands count' margin'
      → (count ≡ count') × (margin ≡ margin')
  best_only one two =
      let same = fewest_only (best_fewest one) (best_fewest two) in (
        same,
        omega (
          arith,
          one.margin_is,
          two.margin_is,
          one.best.greatest_margin two.terms two.best.synopsis (omega (arith, one.count_is, two.count_is)),
          two.best.greatest_margin one.terms one.best.synopsis (omega (arith, one.count_is, two.count_is)),
        ),
      )

  module _ (in_range : InRange profile rest) where
    -- the theory's number is that of the fewest terms
    pub fewest_some : FewestTerms profile rest bands (fewest_terms profile rest bands)
    fewest_some = record {
      terms = walked_terms in_range bands;
      synopsis = walked_keeps in_range bands;
      count_is = walked_as_few in_range bands;
      none_fewer = λ other keeping. synopsis_needs in_range keeping;
    }

    pub best_some : 1 ≤ slots_of profile
        → let terms = first_synopsis profile rest bands in BestNumbers profile rest bands (length terms) (least_margin profile rest terms bands)
    best_some some_slot = record {
      terms = first_synopsis profile rest bands;
      best = (synopsis_first in_range some_slot bands).best;
      count_is = refl;
      margin_is = refl;
    }
