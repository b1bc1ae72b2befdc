-- A best synopsis has at most m terms, so a destination of m terms is never too short for it.
use mathlib.Core.Path.{◌≡◌, subst}
use mathlib.Core.List.{List}
use Prim.Native.Nat.{ℕ, ◌≤◌}
use native.Mathlib.Omega.{arith}
use lib.IntN.{ℤ}
use lib.ListN.{length}
use Rattle.histogram.specs.declared.Term.{Term}
use Rattle.histogram.specs.Tree.{padded}
use Rattle.claims.specs.Best.{InRange, Best}
use Rattle.claims.specs.Inner.{fewest_terms}
use Rattle.claims.proofs.Exists.{walked_terms, walked_keeps, walked_as_few}
use Rattle.claims.proofs.Reduced.{narrowed_none}
use Rattle.build.proofs.Trees.{few_needed}

pub best_few : {profile : List ℤ} {rest : ℤ} {bands : List ℕ} {terms : List Term} → InRange profile rest → length bands ≡ length profile → Best profile rest bands terms
    → length terms ≤ padded (length profile)
best_few {profile} {rest} {bands} in_range each_band best =
    let few = subst (λ (narrow : List ℕ). fewest_terms profile rest narrow ≤ padded (length profile)) (narrowed_none bands) (few_needed in_range bands each_band 0) in
    omega (arith, best.fewest (walked_terms in_range bands) (walked_keeps in_range bands), walked_as_few in_range bands, few)
