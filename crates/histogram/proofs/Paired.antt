-- Terms that are lent as two lists of equal length, seen from a place on: the term there, and what the test and the look-up do with it.
use mathlib.Core.Path.{◌≡◌, refl, ap, ◌∙◌}
use mathlib.Core.Bool.{false, not, cond, ◌&&◌}
use mathlib.Core.List.{List, [], ◌∷◌}
use Prim.Native.Nat.{ℕ, suc, ◌+◌, ◌<◌}
use native.Mathlib.Numerals.{add-one}
use native.Mathlib.Omega.{arith}
use lib.Dec.{ltb, eqb}
use lib.IntN.{ℤ, pos}
use lib.ListN.{length, get_or, drop}
use lib.Seq.{drop-cons}
use borrow.Author.Tests.{lt-ltb}
use Rattle.limits.specs.Limits.{beyond}
use Rattle.histogram.specs.declared.Term.{Term}
use Rattle.histogram.specs.Terms.{paired, nodes_of, values_of, valid_from, term_or}

-- as many terms as nodes
pub length_paired : (nodes : List ℕ) (values : List ℤ) → length nodes ≡ length values → length (paired nodes values) ≡ length nodes
unfolding paired
length_paired [] values same = refl
length_paired (node ∷ nodes) [] same = absurd (omega arith)
length_paired (node ∷ nodes) (value ∷ values) same = ap suc (length_paired nodes values (omega arith))

-- the terms from a place on
abbrev pub onwards : List ℕ → List ℤ → ℕ → List Term
onwards nodes values place = paired (drop place nodes) (drop place values)

-- the term at a place
abbrev pub term_at : List ℕ → List ℤ → ℕ → Term
term_at nodes values place = record { node = get_or nodes place 0; value = get_or values place (pos 0) }

module _ (nodes : List ℕ) (values : List ℤ) (place : ℕ) (same : length nodes ≡ length values) (within : place < length nodes) where
  pub term_there : onwards nodes values place ≡ term_at nodes values place ∷ onwards nodes values (suc place)
  unfolding paired
  term_there = rw (drop-cons nodes place 0 within, drop-cons values place (pos 0) (omega arith))

  pub valid_there : (last end : ℕ)
      → valid_from last end (onwards nodes values place)
      ≡ (ltb last (get_or nodes place 0) && (ltb (get_or nodes place 0) end && (not (beyond 20000 (get_or values place (pos 0))) && valid_from (get_or nodes place 0) end (onwards nodes values (suc place)))))
  unfolding valid_from
  valid_there last end = ap (valid_from last end) term_there

  -- where the term passes the test, those after it are left
  pub valid_onwards : (last end : ℕ) → last < get_or nodes place 0 → get_or nodes place 0 < end → beyond 20000 (get_or values place (pos 0)) ≡ false
      → valid_from last end (onwards nodes values place) ≡ valid_from (get_or nodes place 0) end (onwards nodes values (place + 1))
  valid_onwards last end above below within =
      valid_there last end ∙ rw (lt-ltb last (get_or nodes place 0) above, lt-ltb (get_or nodes place 0) end below, within, add-one place)

  pub lookup_there : (otherwise : ℤ) (node : ℕ)
      → term_or otherwise (onwards nodes values place) node
      ≡ cond (eqb (get_or nodes place 0) node) (get_or values place (pos 0)) (term_or otherwise (onwards nodes values (suc place)) node)
  unfolding term_or
  lookup_there otherwise node = ap (λ (terms : List Term). term_or otherwise terms node) term_there

-- terms taken apart and paired again
pub paired_again : (terms : List Term) → paired (nodes_of terms) (values_of terms) ≡ terms
unfolding paired
paired_again [] = refl
paired_again (term ∷ terms) = ap (λ (l : List Term). term ∷ l) (paired_again terms)
