-- The setpoint restored in a slot, as document 01 words it, from the slot's node up. For the auditor.
-- `proofs/Expected.antt` shows what a reader expects of it: `own_term`, `no_terms`, `root_alone`.
use Rattle.std.specs.Prelude.{List, [], ◌∷◌, ◌++◌, ℕ, zero, suc, ◌+◌, ◌/◌, ℤ}
use Rattle.histogram.specs.declared.Term.{Term}
use Rattle.histogram.specs.Tree.{padded, level_of}
use Rattle.histogram.specs.Terms.{term_or}

-- "the value of the lowest term on the path" of `count` nodes from `node` upwards; "with no term on the path it is the rest value"
unfoldable pub restored : ℤ → List Term → ℕ → ℕ → ℤ
restored rest terms zero node = rest
restored rest terms (suc count) node = term_or (restored rest terms count (node / 2)) terms node

-- how many nodes lie on the path from a node up to the root, both included; the number 0 is no node
abbrev pub path_nodes : ℕ → ℕ
path_nodes zero = 0
path_nodes (suc i) = suc (level_of (suc i))

-- the same at a node: on the path from it "up to the root, the node itself included"
abbrev pub restored_at : ℤ → List Term → ℕ → ℤ
restored_at rest terms node = restored rest terms (path_nodes node) node

-- "slot j is node m+j": the setpoint restored in slot j of a profile of n slots
abbrev pub restored_slot : ℕ → ℤ → List Term → ℕ → ℤ
restored_slot n rest terms slot = restored_at rest terms (padded n + slot)

-- what a function gives for 0, 1 and on, `count` of them
unfoldable pub counted {ℓ} : {A : Type ℓ} → (ℕ → A) → ℕ → List A
counted f zero = []
counted f (suc count) = counted f count ++ (f count ∷ [])

-- the setpoints restored in slots 0 to n-1
abbrev pub restored_profile : ℕ → ℤ → List Term → List ℤ
restored_profile n rest terms = counted (restored_slot n rest terms) n
