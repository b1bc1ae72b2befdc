-- The fewest terms, and the term count and the least margin of the best synopses: demand 3, as document 02's F-6 has it, said of numbers. For the auditor.
-- For a profile of a slot or more, with setpoints and rest value in range, there is exactly one of each: `fewest_some` and `fewest_only`, `best_some` and `best_only` (proofs/Numbers.antt).
use Rattle.std.specs.Prelude.{◌≡◌, List, ℕ, ◌≤◌, ℤ, length}
use Rattle.histogram.specs.declared.Term.{Term}
use Rattle.histogram.specs.Errors.{least_margin}
use Rattle.claims.specs.Best.{KeepingSynopsis, Best}

-- the fewest terms: some synopsis that keeps the bands has so many, and none has fewer
pub record FewestTerms (profile : List ℤ) (rest : ℤ) (bands : List ℕ) (count : ℕ) : Type 0 where
  pub terms : List Term
  pub synopsis : KeepingSynopsis profile rest bands terms
  pub count_is : length terms ≡ count
  pub none_fewer : (other : List Term) → KeepingSynopsis profile rest bands other → count ≤ length other

-- the term count and the least margin: some best synopsis has them
pub record BestNumbers (profile : List ℤ) (rest : ℤ) (bands : List ℕ) (count margin : ℕ) : Type 0 where
  pub terms : List Term
  pub best : Best profile rest bands terms
  pub count_is : length terms ≡ count
  pub margin_is : least_margin profile rest terms bands ≡ margin
