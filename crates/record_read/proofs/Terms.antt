-- The terms of a record by their places: term i stands behind i terms.
use mathlib.Core.Path.{◌≡◌, sym, ◌∙◌}
use mathlib.Core.List.{List}
use Prim.Native.Nat.{ℕ, ◌<◌}
use lib.IntN.{ℤ, pos}
use lib.ListN.{length, get_or, length-map}
use Rattle.limits.proofs.Laying.{LaidSoFar}
use Rattle.histogram.specs.Terms.{nodes_of, values_of}
use Rattle.record.specs.Layout.{layout_width}
use Rattle.record.specs.Record.{header_layout, term_layout, terms_end, term_in}
use Rattle.record.proofs.Entries.{length_from, entry_at}
use Rattle.record_read.specs.Inner.{first_terms}

module _ (count : ℕ) (bytes : List ℕ) where
  pub nodes_long : length (nodes_of (first_terms count bytes)) ≡ count
  nodes_long = length-map (first_terms count bytes) (λ term. term.node) ∙ length_from term_layout term_in count (layout_width header_layout) bytes

  pub values_long : length (values_of (first_terms count bytes)) ≡ count
  values_long = length-map (first_terms count bytes) (λ term. term.value) ∙ length_from term_layout term_in count (layout_width header_layout) bytes

module _ (bytes : List ℕ) (count i : ℕ) (inside : i < count) where
  pub node_field : (term_in (terms_end i) bytes).node ≡ get_or (nodes_of (first_terms count bytes)) i 0
  node_field = sym (entry_at term_layout term_in (λ term. term.node) 0 count i (layout_width header_layout) bytes inside)

  pub value_field : (term_in (terms_end i) bytes).value ≡ get_or (values_of (first_terms count bytes)) i (pos 0)
  value_field = sym (entry_at term_layout term_in (λ term. term.value) (pos 0) count i (layout_width header_layout) bytes inside)

-- i terms are laid, and the next stands at its place: the invariant of the loop that reads them
pub record ReadSoFar (bytes : List ℕ) (count : ℕ) (nodes nodes' : List ℕ) (values values' : List ℤ) (at i : ℕ) : Type 0 where
  pub place_is : at ≡ terms_end i
  pub nodes_laid : LaidSoFar (nodes_of (first_terms count bytes)) nodes nodes' i
  pub values_laid : LaidSoFar (values_of (first_terms count bytes)) values values' i
