-- A look-up by place: at the first place with the node stands its term, and with no such place it has none.
use mathlib.Core.Path.{◌≡◌, refl, ◌∙◌}
use mathlib.Core.List.{List}
use Prim.Native.Nat.{ℕ, zero, suc, ◌-◌, ◌/◌, ◌<◌, ◌≤◌}
use native.Mathlib.Omega.{arith}
use lib.IntN.{ℤ, pos}
use lib.ListN.{length, get_or, drop_of_length-le}
use borrow.Author.Tests.{eq-eqb, ne_eqb}
use Rattle.histogram.specs.Terms.{paired, term_or}
use Rattle.histogram.specs.Restored.{restored, restored_at}
use Rattle.histogram.specs.Inner.{FirstPlace, Nowhere}
use Rattle.histogram.proofs.Above.{one_step_up}
use Rattle.histogram.proofs.Paired.{onwards, lookup_there}

module _ (nodes : List ℕ) (values : List ℤ) (same : length nodes ≡ length values) (otherwise : ℤ) where
  -- places that hold other nodes can be passed over
  passed_over : (node place : ℕ) → place ≤ length nodes → ((k : ℕ) → k < place → get_or nodes k 0 ≡ node → ⊥)
      → term_or otherwise (paired nodes values) node ≡ term_or otherwise (onwards nodes values place) node
  passed_over node zero within others = refl
  passed_over node (suc place) within others =
      passed_over node place (omega arith) (λ k before. others k (omega arith))
      ∙ lookup_there nodes values place same (omega arith) otherwise node
      ∙ rw (ne_eqb (get_or nodes place 0) node (others place (omega arith)))

  pub found_term : {node place : ℕ} → FirstPlace nodes node place → term_or otherwise (paired nodes values) node ≡ get_or values place (pos 0)
  found_term {node} {place} found =
      let within = found.within in
      passed_over node place (omega arith) found.not_before
      ∙ lookup_there nodes values place same found.within otherwise node
      ∙ rw (eq-eqb (get_or nodes place 0) node found.there)

  pub found_none : {node : ℕ} → Nowhere nodes node → term_or otherwise (paired nodes values) node ≡ otherwise
  unfolding paired term_or
  found_none {node} found = let whole : length nodes ≤ length nodes = omega arith in passed_over node (length nodes) whole found.nowhere ∙ rw (drop_of_length-le nodes whole)

-- the way up from a node, with a count of the nodes that are left: it ends at a node with a term, and goes on from one without
module _ (rest : ℤ) (nodes : List ℕ) (values : List ℤ) (node : ℕ) {left above : ℕ} (same : length nodes ≡ length values) (some_left : 0 < left)
    (so_far : restored_at rest (paired nodes values) node ≡ restored rest (paired nodes values) left above) where
  pub way_ends : {place : ℕ} → FirstPlace nodes above place → restored_at rest (paired nodes values) node ≡ get_or values place (pos 0)
  way_ends found = so_far ∙ one_step_up rest (paired nodes values) left above some_left ∙ found_term nodes values same _ found

  pub way_goes_on : Nowhere nodes above → restored_at rest (paired nodes values) node ≡ restored rest (paired nodes values) (left - 1) (above / 2)
  way_goes_on none = so_far ∙ one_step_up rest (paired nodes values) left above some_left ∙ found_none nodes values same _ none
