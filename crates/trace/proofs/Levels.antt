-- One level below a node that hands on a value: the terms there are those below the left and those below the right child, each with the value that the child hands on.
use mathlib.Core.Path.{◌≡◌, sym, ap, ap₂, subst, ◌∙◌}
use mathlib.Core.Bool.{true}
use mathlib.Core.List.{List, [], ◌++◌}
use mathlib.Core.Option.{Option}
use Prim.Native.Nat.{ℕ, suc, ◌+◌, ◌*◌, ◌-◌, ◌^◌, ◌≤◌, ◌<◌}
use native.Mathlib.Omega.{arith}
use lib.Dec.{T}
use lib.IntN.{ℤ}
use lib.ListN.{length, take, drop, length-append}
use Rattle.histogram.specs.declared.Term.{Term}
use Rattle.claims.specs.Inner.{with_term}
use Rattle.windows.specs.Windows.{Window, covers}
use Rattle.windows.specs.Scratch.{at}
use Rattle.windows.proofs.Sets.{covers_within}
use Rattle.subtree.specs.Answer.{Answer, answer}
use Rattle.subtree.specs.Stretch.{Usable, Planned}
use Rattle.subtree.proofs.Answers.{answer_sorted, answer_bounded}
use Rattle.trace.specs.Trace.{change, handed_on, level_terms, set_at, SolvedStretch, HandedToChildren, TermFits, LevelFits, Appended, LevelTraced}
use Rattle.trace.proofs.Chosen.{handed_on_inside, handed_on_in_set, choice_is_change}
use Rattle.trace.proofs.Siblings.{no_terms, terms_below_lem}
use Rattle.trace.proofs.Stretches.{top_is, left_is, right_is, left_stretch, right_stretch, same_level}
use Rattle.trace.proofs.Traced.{none_appended, appended_long, appended_further}

-- ---- the value that a node hands on

-- the set of an answer
abbrev pub set_of : ℕ → List Window → List Window
set_of height leaves = (answer height leaves).windows

module _ (height : ℕ) {leaves : List Window} (within : Usable leaves) (node value : ℕ) where
  -- the node's own term is what changes the value
  pub own_term : level_terms 0 height leaves node value ≡ with_term node (change value (handed_on (set_of height leaves) value)) []
  unfolding level_terms
  own_term =
      ap (λ (term : Option ℕ). with_term node term [])
      (choice_is_change (set_of height leaves) (answer_sorted within height) (answer_bounded height leaves).some value)

module _ {height : ℕ} {scratch : List ℤ} (stretch : SolvedStretch height scratch) (value next : ℕ) (next_is : next ≡ handed_on (set_of height stretch.leaves) value) where
  -- that value is in the node's set
  pub handed_in_set : covers (set_at scratch 0) next ≡ true
  handed_in_set =
      subst (λ (one : Answer). covers one.windows next ≡ true) (sym (top_is stretch))
      (rw next_is
      (handed_on_in_set (set_of height stretch.leaves) (answer_sorted stretch.usable height)
      (answer_bounded height stretch.leaves).some value))

  -- and at most 40,000
  pub handed_within : next ≤ 40000
  handed_within =
      covers_within (set_of height stretch.leaves) 0 next (answer_sorted stretch.usable height)
      (subst T (sym (subst (λ (one : Answer). covers one.windows next ≡ true) (top_is stretch) handed_in_set)) tt)

-- ---- the terms of a level

module _ {scratch : List ℤ} {height depth node value : ℕ} {nodes : List ℕ} {values : List ℤ} {count : ℕ} (fits : LevelFits scratch height depth node value nodes values count) where
  abbrev stretch : SolvedStretch height scratch
  stretch = fits.stretch

  abbrev terms : List Term
  terms = level_terms depth height stretch.leaves node value

  in_top_set : covers (set_of height stretch.leaves) value ≡ true
  in_top_set = subst (λ (one : Answer). covers one.windows value ≡ true) (top_is stretch) fits.in_set

  -- they are the same for all leaves whose answers the stretch holds
  for_each : {nodes' : List ℕ} {values' : List ℤ} {count' : ℕ} → Appended terms nodes nodes' values values' count count'
      → LevelTraced scratch height depth node value nodes nodes' values values' count count'
  for_each appended = record {
    each = λ leaves usable solved. rw (same_level depth height (at scratch) node value usable stretch.usable solved stretch.solved) appended;
  }

  -- none where the node's number is 0
  pub none_below : at scratch 0 ≡ 0 → LevelTraced scratch height depth node value nodes nodes values values count count
  none_below none =
      let number : (answer height stretch.leaves).number ≡ 0 = sym (ap (λ (one : Answer). one.number) (top_is stretch)) ∙ none in
      for_each (rw (no_terms depth height node value stretch.usable number in_top_set) (none_appended nodes values count))

  -- in two parts, one written behind the other
  module _ (left-terms right-terms : List Term) (both : terms ≡ left-terms ++ right-terms) where
    pub room_for_both : count + (length left-terms + length right-terms) ≤ length nodes
    room_for_both = simp length-append at (rw both at fits.room)

    module _ {nodes' : List ℕ} {values' : List ℤ} {first : ℕ} (left : Appended left-terms nodes nodes' values values' count first) where
      -- the slices are as long as before
      pub first_long : (length nodes' ≡ length nodes) × (length values' ≡ length nodes)
      first_long = appended_long left (omega (arith, room_for_both)) fits.same_room

      -- and have room for the second part
      pub room_left : first + length right-terms ≤ length nodes'
      room_left = omega (arith, room_for_both, left.count_is, first_long.0)

      pub same_room_left : length values' ≡ length nodes'
      same_room_left = omega (arith, first_long.0, first_long.1)

      pub both_traced : {nodes'' : List ℕ} {values'' : List ℤ} {second : ℕ} → Appended right-terms nodes' nodes'' values' values'' first second
          → LevelTraced scratch height depth node value nodes nodes'' values values'' count second
      both_traced right = for_each (rw both (appended_further (omega (arith, room_for_both)) fits.same_room left right))

-- ---- the children

-- a node whose number is above 0, with a level `below` its children, the places of the children's answers, and the values that they hand on
pub record Descent (scratch : List ℤ) (height depth below node value : ℕ) (nodes : List ℕ) (values : List ℤ) (count half own middle end left right : ℕ) : Type 0 where
  pub fits : LevelFits scratch height depth node value nodes values count
  pub deeper : depth ≡ suc below
  pub some : 0 < at scratch 0
  pub planned : Planned height half own middle end
  pub handed : HandedToChildren scratch own middle value left right

pub descended : {scratch : List ℤ} {height depth below node value : ℕ} {nodes : List ℕ} {values : List ℤ} {count half own middle end left right : ℕ}
    → LevelFits scratch height depth node value nodes values count → depth ≡ suc below → 0 < at scratch 0 → Planned height half own middle end → HandedToChildren scratch own middle value left right
    → Descent scratch height depth below node value nodes values count half own middle end left right
descended fits deeper some planned handed = record { fits = fits; deeper = deeper; some = some; planned = planned; handed = handed }

module _ {scratch : List ℤ} {height depth below node value : ℕ} {nodes : List ℕ} {values : List ℤ} {count half own middle end left right : ℕ}
    (descent : Descent scratch height depth below node value nodes values count half own middle end left right) where
  abbrev whole : SolvedStretch height scratch
  whole = descent.fits.stretch

  abbrev on_left : SolvedStretch (height - 1) (take (middle - own) (drop own scratch))
  on_left = left_stretch descent.planned whole descent.some

  abbrev on_right : SolvedStretch (height - 1) (take (end - middle) (drop middle scratch))
  on_right = right_stretch descent.planned whole descent.some

  -- the terms below each child where a value comes in
  abbrev left_terms : ℕ → List Term
  left_terms = level_terms below (height - 1) on_left.leaves (2 * node)

  abbrev right_terms : ℕ → List Term
  right_terms = level_terms below (height - 1) on_right.leaves (2 * node + 1)

  -- both children get the value that the node hands on
  both_terms : terms descent.fits ≡ left_terms value ++ right_terms value
  unfolding level_terms
  both_terms =
      let inside : covers (set_of (suc (height - 1)) whole.leaves) value ≡ true =
      subst (λ (of : ℕ). covers (set_of of whole.leaves) value ≡ true) descent.planned.below (in_top_set descent.fits) in
      ap₂ (λ (levels of : ℕ). level_terms levels of whole.leaves node value) descent.deeper descent.planned.below
      ∙ ap (λ (next : ℕ). left_terms next ++ right_terms next) (handed_on_inside (set_of (suc (height - 1)) whole.leaves) value inside)

  pub left_handed : left ≡ handed_on (set_of (height - 1) on_left.leaves) value
  left_handed = descent.handed.left_is ∙ ap (λ (one : Answer). handed_on one.windows value) (left_is descent.planned whole descent.some)

  pub right_handed : right ≡ handed_on (set_of (height - 1) on_right.leaves) value
  right_handed = descent.handed.right_is ∙ ap (λ (one : Answer). handed_on one.windows value) (right_is descent.planned whole descent.some)

  child_within : (child : ℕ) → child ≤ 2 * node + 1 → child < 2 ^ (10 - below)
  child_within child below-node =
      let above : 2 ^ (10 - below) ≡ 2 ^ suc (10 - depth) = ap (λ (levels : ℕ). 2 ^ levels) (omega (arith, descent.deeper, descent.fits.in_subtree, whole.in_tree)) in
      omega (arith, descent.fits.node_within)

  -- ---- where the level is further below

  module _ (further : 1 ≤ below) where
    -- so does what is below them
    pub both_below : terms descent.fits ≡ left_terms left ++ right_terms right
    both_below =
        both_terms
        ∙ ap₂ ◌++◌ (terms_below_lem below (height - 1) on_left.usable further (2 * node) value ∙ ap left_terms (sym left_handed))
        (terms_below_lem below (height - 1) on_right.usable further (2 * node + 1) value ∙ ap right_terms (sym right_handed))

    -- the left child is called with room for the terms below it
    pub left_fits : LevelFits (take (middle - own) (drop own scratch)) (height - 1) below (2 * node) left nodes values count
    left_fits = record {
      stretch = on_left;
      in_subtree = omega (arith, descent.fits.in_subtree, descent.deeper);
      node_within = child_within (2 * node) (omega arith);
      in_set = handed_in_set on_left value left left_handed;
      room = omega (arith, room_for_both descent.fits (left_terms left) (right_terms right) both_below);
      same_room = descent.fits.same_room;
    }

    module _ {nodes' : List ℕ} {values' : List ℤ} {first : ℕ}
        (traced : LevelTraced (take (middle - own) (drop own scratch)) (height - 1) below (2 * node) left nodes nodes' values values' count first) where
      abbrev left_traced : Appended (left_terms left) nodes nodes' values values' count first
      left_traced = traced.each on_left.leaves on_left.usable on_left.solved

      -- and so is the right child
      pub right_fits : LevelFits (take (end - middle) (drop middle scratch)) (height - 1) below (2 * node + 1) right nodes' values' first
      right_fits = record {
        stretch = on_right;
        in_subtree = omega (arith, descent.fits.in_subtree, descent.deeper);
        node_within = child_within (2 * node + 1) (omega arith);
        in_set = handed_in_set on_right value right right_handed;
        room = room_left descent.fits (left_terms left) (right_terms right) both_below left_traced;
        same_room = same_room_left descent.fits (left_terms left) (right_terms right) both_below left_traced;
      }

      -- both together are the terms below the node
      pub level_traced : {nodes'' : List ℕ} {values'' : List ℤ} {second : ℕ}
          → LevelTraced (take (end - middle) (drop middle scratch)) (height - 1) below (2 * node + 1) right nodes' nodes'' values' values'' first second
          → LevelTraced scratch height depth node value nodes nodes'' values values'' count second
      level_traced right-traced =
          both_traced descent.fits (left_terms left) (right_terms right) both_below left_traced (right-traced.each on_right.leaves on_right.usable on_right.solved)

-- ---- where it is the level of the children

module _ {scratch : List ℤ} {height node value : ℕ} {nodes : List ℕ} {values : List ℤ} {count half own middle end left right : ℕ}
    (descent : Descent scratch height 1 0 node value nodes values count half own middle end left right) where
  abbrev left_term : List Term
  left_term = with_term (2 * node) (change value left) []

  abbrev right_term : List Term
  right_term = with_term (2 * node + 1) (change value right) []

  both_own : terms descent.fits ≡ left_term ++ right_term
  both_own =
      both_terms descent
      ∙ ap₂ ◌++◌
      (own_term (height - 1) (on_left descent).usable (2 * node) value ∙ ap (λ (next : ℕ). with_term (2 * node) (change value next) []) (sym (left_handed descent)))
      (own_term (height - 1) (on_right descent).usable (2 * node + 1) value
      ∙ ap (λ (next : ℕ). with_term (2 * node + 1) (change value next) []) (sym (right_handed descent)))

  pub left_term_fits : TermFits (2 * node) value left nodes values count
  left_term_fits = record {
    node_within = child_within descent (2 * node) (omega arith);
    next_within = handed_within (on_left descent) value left (left_handed descent);
    room = omega (arith, room_for_both descent.fits left_term right_term both_own);
    same_room = descent.fits.same_room;
  }

  module _ {nodes' : List ℕ} {values' : List ℤ} {first : ℕ} (written : Appended left_term nodes nodes' values values' count first) where
    pub right_term_fits : TermFits (2 * node + 1) value right nodes' values' first
    right_term_fits = record {
      node_within = child_within descent (2 * node + 1) (omega arith);
      next_within = handed_within (on_right descent) value right (right_handed descent);
      room = room_left descent.fits left_term right_term both_own written;
      same_room = same_room_left descent.fits left_term right_term both_own written;
    }

    pub children_traced : {nodes'' : List ℕ} {values'' : List ℤ} {second : ℕ} → Appended right_term nodes' nodes'' values' values'' first second
        → LevelTraced scratch height 1 node value nodes nodes'' values values'' count second
    children_traced right-written = both_traced descent.fits left_term right_term both_own written right-written
