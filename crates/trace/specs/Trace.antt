-- The walk from the root down, level by level, and what inner functions ask and promise of it. A reader of the promises need not open this file.
-- `proofs/Walked.antt` shows that its terms are those of the theory of fewest terms: `profile_walked`.
use Rattle.std.specs.Prelude.{◌≡◌, true, cond, List, [], ◌∷◌, ◌++◌, ℕ, zero, suc, ◌+◌, ◌*◌, ◌-◌, ◌^◌, ◌≤◌, ◌<◌, min, eqb, ℤ, length, take, drop}
use Rattle.std.proofs.Math.Option.{Option, none, some}
use Rattle.limits.specs.Answers.{laid}
use Rattle.histogram.specs.declared.Term.{Term}
use Rattle.histogram.specs.Terms.{nodes_of, values_of}
use Rattle.fewest.specs.Node.{placed}
use Rattle.claims.specs.Inner.{with_term}
use Rattle.windows.specs.Windows.{Window, covers, Sorted}
use Rattle.windows.specs.Scratch.{at}
use Rattle.subtree.specs.Answer.{combined, answer}
use Rattle.subtree.specs.Stretch.{places, answer_at, Solved, Usable}

-- the lowest value of a set of sorted windows
abbrev pub lowest : List Window → ℕ
lowest [] = 0
lowest (window ∷ windows) = window.low

-- no term where the value that comes in is in the set, else a term with the lowest value of the set
abbrev pub choice : List Window → ℕ → Option ℕ
choice windows value = cond (covers windows value) none (some (lowest windows))

-- the value that a node with a set hands on to its children
abbrev pub handed_on : List Window → ℕ → ℕ
handed_on windows value = placed (choice windows value) value

-- no term where a node hands on the value that comes in, else a term with the value that it hands on
abbrev pub change : (value next : ℕ) → Option ℕ
change value next = cond (eqb next value) none (some next)

-- the terms `depth` levels below a node, where a value comes in at the node
unfoldable pub level_terms : (depth height : ℕ) → List Window → (node value : ℕ) → List Term
level_terms zero height leaves node value = with_term node (choice (answer height leaves).windows value) []
level_terms (suc depth) zero leaves node value = []
level_terms (suc depth) (suc height) leaves node value =
    let next : ℕ = handed_on (answer (suc height) leaves).windows value in
    level_terms depth height (take (2 ^ height) leaves) (2 * node) next ++ level_terms depth height (drop (2 ^ height) leaves) (2 * node + 1) next

-- the terms of the first `count` levels from the root, where a value comes in at the root
unfoldable pub upper_terms : (count height : ℕ) → List Window → (value : ℕ) → List Term
upper_terms zero height leaves value = []
upper_terms (suc count) height leaves value = upper_terms count height leaves value ++ level_terms count height leaves 1 value

-- the set of the answer at a place of scratch
abbrev pub set_at : List ℤ → ℕ → List Window
set_at scratch place = (answer_at (at scratch) place).windows

-- a place of scratch with an answer, below place 65,536
pub record Answered (scratch : List ℤ) (place : ℕ) : Type 0 where
  pub room : place + 2 + 2 * at scratch (place + 1) ≤ length scratch
  pub near : place + 2 + 2 * at scratch (place + 1) ≤ 65536
  pub not_empty : 1 ≤ at scratch (place + 1)
  pub sorted : Sorted 0 (set_at scratch place)

-- a node's answer in front, those of its children at two places, and a value in the node's set
pub record Handing (scratch : List ℤ) (left right value : ℕ) : Type 0 where
  pub left_answered : Answered scratch left
  pub right_answered : Answered scratch right
  pub combines : answer_at (at scratch) 0 ≡ combined (answer_at (at scratch) left) (answer_at (at scratch) right)
  pub in_set : covers (set_at scratch 0) value ≡ true

-- the values that two children hand on where a value comes in
pub record HandedToChildren (scratch : List ℤ) (left right value leftNext rightNext : ℕ) : Type 0 where
  pub left_is : leftNext ≡ handed_on (set_at scratch left) value
  pub right_is : rightNext ≡ handed_on (set_at scratch right) value

-- a stretch that is solved over some leaves
pub record SolvedStretch (height : ℕ) (scratch : List ℤ) : Type 0 where
  pub leaves : List Window
  pub usable : Usable leaves
  pub solved : Solved height leaves (at scratch)
  pub in_tree : height ≤ 9
  pub long : places height ≤ length scratch

-- a node of the tree, a value that it hands on, and room for its term behind the first `count`
pub record TermFits (node value next : ℕ) (nodes : List ℕ) (values : List ℤ) (count : ℕ) : Type 0 where
  pub node_within : node < 1024
  pub next_within : next ≤ 40000
  pub room : count + length (with_term node (change value next) []) ≤ length nodes
  pub same_room : length values ≡ length nodes

-- a node of the tree with the stretch of its subtree and a value in its set, and room for the terms `depth` levels below it behind the first `count`
pub record LevelFits (scratch : List ℤ) (height depth node value : ℕ) (nodes : List ℕ) (values : List ℤ) (count : ℕ) : Type 0 where
  pub stretch : SolvedStretch height scratch
  pub in_subtree : depth ≤ height
  pub node_within : node < 2 ^ (10 - depth)
  pub in_set : covers (set_at scratch 0) value ≡ true
  pub room : count + length (level_terms depth height stretch.leaves node value) ≤ length nodes
  pub same_room : length values ≡ length nodes

-- the stretch of the whole tree, and room for its terms
pub record LevelsFit (scratch : List ℤ) (height value : ℕ) (nodes : List ℕ) (values : List ℤ) : Type 0 where
  pub stretch : SolvedStretch height scratch
  pub value_within : value ≤ 40000
  pub room : length (upper_terms (suc height) height stretch.leaves value) ≤ length nodes
  pub same_room : length values ≡ length nodes

-- what was written, over what follows the first `start` elements
abbrev pub laid_from : {A : Type 0} → ℕ → List A → List A → List A
laid_from start written before = take start before ++ laid written (drop start before)

-- terms written behind the first `start`, and how many there are then
pub record Appended (terms : List Term) (nodes nodes' : List ℕ) (values values' : List ℤ) (start count : ℕ) : Type 0 where
  pub nodes_are : nodes' ≡ laid_from start (nodes_of terms) nodes
  pub values_are : values' ≡ laid_from start (values_of terms) values
  pub count_is : count ≡ start + length terms

-- terms written over the fronts of two lists, and how many
pub record Traced (terms : List Term) (nodes nodes' : List ℕ) (values values' : List ℤ) (count : ℕ) : Type 0 where
  pub nodes_are : nodes' ≡ laid (nodes_of terms) nodes
  pub values_are : values' ≡ laid (values_of terms) values
  pub count_is : count ≡ length terms

-- the terms `depth` levels below a node are written behind the first `start`
pub record LevelTraced (scratch : List ℤ) (height depth node value : ℕ) (nodes nodes' : List ℕ) (values values' : List ℤ) (start count : ℕ) : Type 0 where
  pub each : (leaves : List Window) → Usable leaves → Solved height leaves (at scratch) → Appended (level_terms depth height leaves node value) nodes nodes' values values' start count

-- the terms of so many levels, or of all, are written
pub record UpperTraced (levels : ℕ) (scratch : List ℤ) (height value : ℕ) (nodes nodes' : List ℕ) (values values' : List ℤ) (count : ℕ) : Type 0 where
  pub each : (leaves : List Window) → Usable leaves → Solved height leaves (at scratch) → Traced (upper_terms (min levels (suc height)) height leaves value) nodes nodes' values values' count

-- the terms of all levels are written
pub record LevelsTraced (scratch : List ℤ) (height value : ℕ) (nodes nodes' : List ℕ) (values values' : List ℤ) (count : ℕ) : Type 0 where
  pub each : (leaves : List Window) → Usable leaves → Solved height leaves (at scratch) → Traced (upper_terms (suc height) height leaves value) nodes nodes' values values' count
