-- Lists of terms: document 01, "The setpoint in a slot", and row 8 of "What the panel turns away". For the auditor.
use Rattle.std.specs.Prelude.{Bool, true, not, cond, ◌&&◌, List, [], ◌∷◌, map, ℕ, ◌*◌, T, ltb, eqb, ℤ}
use Rattle.limits.specs.Limits.{beyond}
use Rattle.histogram.specs.declared.Term.{Term}
use Rattle.histogram.specs.Tree.{padded}

-- the terms whose nodes and values are lent as two lists
unfoldable pub paired : List ℕ → List ℤ → List Term
paired [] values = []
paired (node ∷ nodes) [] = []
paired (node ∷ nodes) (value ∷ values) = record { node = node; value = value } ∷ paired nodes values

-- the nodes and the values of terms, as two lists
abbrev pub nodes_of : List Term → List ℕ
nodes_of terms = map (λ (term : Term). term.node) terms

abbrev pub values_of : List Term → List ℤ
values_of terms = map (λ (term : Term). term.value) terms

-- strictly ascending nodes above `last` and below `end`, and values within ±20,000
unfoldable pub valid_from : ℕ → ℕ → List Term → Bool
valid_from last end [] = true
valid_from last end (term ∷ terms) =
    ltb last term.node && (ltb term.node end && (not (beyond 20000 term.value) && valid_from term.node end terms))

-- row 8: a list of terms for n slots, its nodes strictly ascending in 1 to 2m-1 (so it has at most 2m-1 terms), its values within ±20,000
abbrev pub valid : ℕ → List Term → Bool
valid n terms = valid_from 0 (2 * padded n) terms

-- the same, as a statement
abbrev pub Valid : ℕ → List Term → Type 0
Valid n terms = T (valid n terms)

-- the value of the term at a node, and `otherwise` where the node has none
unfoldable pub term_or : ℤ → List Term → ℕ → ℤ
term_or otherwise [] node = otherwise
term_or otherwise (term ∷ terms) node = cond (eqb term.node node) term.value (term_or otherwise terms node)
