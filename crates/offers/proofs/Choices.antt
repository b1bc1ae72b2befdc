-- Which of two candidates is better.
use mathlib.Core.Path.{◌≡◌, sym}
use mathlib.Core.Bool.{or-false}
use native.Mathlib.Omega.{arith}
use lib.Dec.{ltb}
use borrow.Author.Tests.{le-ltb, eq-eqb, ne_eqb}
use Rattle.offers.specs.declared.Candidate.{Candidate}
use Rattle.offers.specs.Offers.{beats}

module _ (candidate other : Candidate) where
  pub by_margins : candidate.terms ≡ other.terms → ltb other.margin candidate.margin ≡ beats candidate other
  by_margins same = sym (rw (le-ltb candidate.terms other.terms (omega arith), eq-eqb candidate.terms other.terms same))

  pub by_terms : (candidate.terms ≡ other.terms → ⊥) → ltb candidate.terms other.terms ≡ beats candidate other
  by_terms differ = sym (rw (ne_eqb candidate.terms other.terms differ) (or-false (ltb candidate.terms other.terms)))
