-- What inner functions ask and promise. A reader of the promises need not open this file.
use Rattle.std.specs.Prelude.{◌≡◌, Bool, cond, ◌&&◌, List, ℕ, ◌≤◌, ◌<◌, T, ltb, eqb, ℤ, pos, length, get_or, Option, Some, None, MatchOption}
use Rattle.histogram.specs.declared.Term.{Term}
use Rattle.histogram.specs.Terms.{paired, valid_from}
use Rattle.histogram.specs.Restored.{restored_at}

-- the nodes ascend strictly
pub record Ascending (nodes : List ℕ) : Type 0 where
  pub each : (p q : ℕ) → p < q → q < length nodes → get_or nodes p 0 < get_or nodes q 0

-- the first place of a node in a list of nodes
pub record FirstPlace (nodes : List ℕ) (node place : ℕ) : Type 0 where
  pub within : place < length nodes
  pub there : get_or nodes place 0 ≡ node
  pub not_before : (k : ℕ) → k < place → get_or nodes k 0 ≡ node → ⊥

-- no place of a list of nodes holds the node
pub record Nowhere (nodes : List ℕ) (node : ℕ) : Type 0 where
  pub nowhere : (k : ℕ) → k < length nodes → get_or nodes k 0 ≡ node → ⊥

-- the answer of a search: the first place of a node, or none where it is not there
abbrev pub Found : List ℕ → ℕ → Option ℕ → Type 0
Found nodes node place = MatchOption place (Nowhere nodes node) (FirstPlace nodes node)

-- a node of the tree and terms that can be searched for the nodes above it
pub record Searchable (nodes : List ℕ) (values : List ℤ) (node : ℕ) : Type 0 where
  pub same_length : length nodes ≡ length values
  pub ascending : Ascending nodes
  pub from_root : 1 ≤ node
  pub in_tree : node ≤ 1023

-- a valid list of terms with nodes below `end`, and room for the value at each node
pub record Handing (end : ℕ) (nodes : List ℕ) (values : List ℤ) (before : List ℤ) : Type 0 where
  pub same_length : length nodes ≡ length values
  pub valid : T (valid_from 0 end (paired nodes values))
  pub some_node : 1 ≤ end
  pub room : end ≤ length before

-- the value restored at each node below `end`, and the rest value at place 0; places from `end` on hold what they held
pub record HandedDown (rest : ℤ) (terms : List Term) (end : ℕ) (before after : List ℤ) : Type 0 where
  pub at_node : (node : ℕ) → node < end → get_or after node (pos 0) ≡ restored_at rest terms node
  pub past : (place : ℕ) → end ≤ place → get_or after place (pos 0) ≡ get_or before place (pos 0)

-- whether the term at place `next` is that of the node
abbrev pub is_next : List ℕ → ℕ → ℕ → Bool
is_next nodes next node = ltb next (length nodes) && eqb (get_or nodes next 0) node

-- the value of the next term where it is the node's
abbrev pub fed : List ℕ → List ℤ → ℕ → ℕ → Option ℤ
fed nodes values next node = cond (is_next nodes next node) (Some (get_or values next (pos 0))) None
