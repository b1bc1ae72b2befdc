-- The terms of all levels are those that the theory's walk leaves: `upper_terms_walked`, for a profile `profile_walked`.
-- At each node the answer's set says what the walk chooses there; the levels below a node are gathered from left to right.
use mathlib.Core.Path.{◌≡◌, refl, ap, sym, ◌∙◌}
use mathlib.Core.Bool.{Bool, true, false, cond, not}
use mathlib.Core.Option.{Option, none, some}
use mathlib.Core.List.{List, [], ◌∷◌, ◌++◌}
use Prim.Native.Nat.{ℕ, zero, suc, ◌+◌, ◌-◌, ◌*◌, ◌/◌, ◌^◌, ◌≤◌, ◌<◌}
use native.Mathlib.Nat.{zero-add, suc-add, mul_comm, mul-one, one-mul, mul_assoc, add-mul, pow-succ'}
use native.Mathlib.Numerals.{unary_clauses}
use native.Mathlib.Omega.{arith}
use lib.Dec.{T}
use lib.IntN.{ℤ}
use lib.ListN.{length, length-append}
use lib.Pow.{pow_pos}
use Rattle.histogram.specs.declared.Term.{Term}
use Rattle.histogram.specs.Tree.{height, level_of}
use Rattle.histogram.proofs.Powers.{level_rule, level_only}
use Rattle.fewest.specs.Node.{placed, chosen}
use Rattle.fewest.specs.Tree.{binary}
use Rattle.fewest.specs.Cost.{cost}
use Rattle.fewest.specs.Row.{Row}
use Rattle.fewest.proofs.Rows.{inside_no_term, outside_least_term}
use Rattle.claims.specs.Best.{InRange}
use Rattle.claims.specs.Inner.{lifted, accepts, lowered, with_term, gathered, comes_in, walked}
use Rattle.claims.proofs.Lifted.{lifted_within}
use Rattle.claims.proofs.Exists.{walked_terms}
use Rattle.windows.specs.Windows.{Window, covers, Sorted}
use Rattle.windows.proofs.Sets.{first_within, first_inside, none_below}
use Rattle.subtree.specs.Answer.{slot_windows, answer}
use Rattle.subtree.specs.Stretch.{Usable}
use Rattle.subtree.proofs.Answers.{answer_sorted, answer_bounded, usable_take, usable_drop}
use Rattle.subtree.proofs.Slots.{windows_usable}
use Rattle.subtree.proofs.Rows.{Below, below_left, below_right, answer_row, slots_below, profile_within}
use Rattle.trace.specs.Trace.{choice, handed_on, level_terms, upper_terms}
use Rattle.trace.proofs.Chosen.{handed_on_within}

-- what is chosen by the set of a row is what the theory's walk chooses
choice_is_chosen : {cost_of : ℕ → ℕ} {number : ℕ} (windows : List Window) → Sorted 0 windows → 1 ≤ length windows → Row 40000 cost_of number (covers windows)
    → (value : ℕ) → value ≤ 40000 → choice windows value ≡ chosen 40000 cost_of value
choice_is_chosen [] sorted filled row value within = absurd (omega arith)
choice_is_chosen {cost_of} (window ∷ windows) sorted filled row value within = split (covers (window ∷ windows) value) (inside_no_term row value within) outside
  where
    outside : T (not (covers (window ∷ windows) value)) → chosen 40000 cost_of value ≡ some window.low
    outside missed =
        outside_least_term row value within missed window.low (first_within window windows 0 sorted) (first_inside window windows 0 sorted) (none_below window windows 0 sorted)

    split : (test : Bool) → (T test → chosen 40000 cost_of value ≡ none) → (T (not test) → chosen 40000 cost_of value ≡ some window.low)
        → cond test none (some window.low) ≡ chosen 40000 cost_of value
    split true none_made least-made = sym (none_made tt)
    split false none_made least-made = sym (least-made tt)

-- the terms gathered from two runs of nodes, one after the other
gathered_append : (term_at : ℕ → Option ℕ) (first count further : ℕ) → gathered term_at first count ++ gathered term_at (first + count) further ≡ gathered term_at first (count + further)
unfolding gathered
gathered_append term_at first zero further = simp (unary_clauses, zero-add)
gathered_append term_at first (suc count) further =
    simp (unary_clauses, suc-add) (split (term_at first) _ _ (simp suc-add at (gathered_append term_at (suc first) count further)))
  where
    split : (term : Option ℕ) (later all : List Term) → gathered term_at (suc first) count ++ later ≡ all
        → with_term first term (gathered term_at (suc first) count) ++ later ≡ with_term first term all
    split none later all same = same
    split (some value) later all same = ap (λ (terms : List Term). record { node = first; value = lowered value } ∷ terms) same

module _ {profile : List ℤ} {rest : ℤ} (in_range : InRange profile rest) (bands : List ℕ) where
  -- the theory's walk: what a value costs, what comes in at a node, and the term that is left there
  abbrev cost_of : ℕ → ℕ → ℕ → ℕ
  cost_of = cost binary (accepts profile bands) 40000

  abbrev incoming : ℕ → ℕ → ℕ
  incoming = comes_in cost_of (height (length profile)) (lifted rest)

  abbrev term_at : ℕ → Option ℕ
  term_at = walked cost_of (height (length profile)) (lifted rest)

  -- a node at its place in the tree, with the leaves below it and the value that comes in
  record Reached (levels below node : ℕ) (leaves : List Window) (value : ℕ) : Type 0 where
    in_tree : levels + below ≡ height (length profile)
    from : 2 ^ levels ≤ node
    to : node < 2 ^ suc levels
    usable : Usable leaves
    leaves_below : Below (accepts profile bands) below node leaves
    value_within : value ≤ 40000
    value_is : value ≡ incoming levels node

  -- the answer's set says what the walk chooses
  chosen_there : {levels below node : ℕ} {leaves : List Window} {value : ℕ} → Reached levels below node leaves value
      → choice (answer below leaves).windows value ≡ chosen 40000 (cost_of below node) value
  chosen_there {levels} {below} {node} {leaves} {value} reached =
      choice_is_chosen (answer below leaves).windows (answer_sorted reached.usable below) (answer_bounded below leaves).some
      (answer_row (accepts profile bands) below node reached.usable reached.leaves_below) value reached.value_within

  -- and that is the term that the walk leaves at the node
  left_there : {levels below node : ℕ} {leaves : List Window} {value : ℕ} → Reached levels below node leaves value
      → choice (answer below leaves).windows value ≡ term_at node
  left_there {levels} {below} {node} {leaves} {value} reached =
      let level : level_of node ≡ levels = level_only (level_rule node (omega (arith, pow_pos levels, reached.from))) (record { reached = reached.from; next_not = reached.to }) in
      let left : height (length profile) - levels ≡ below = omega (arith, reached.in_tree) in
      rw (level, left, ← reached.value_is) (chosen_there reached)

  -- a child is reached with the value that the node hands on
  child_reached : {levels below node : ℕ} {leaves : List Window} {value : ℕ} → Reached levels (suc below) node leaves value
      → (child : ℕ) {half : List Window} → child / 2 ≡ node → Usable half → Below (accepts profile bands) below child half
      → Reached (suc levels) below child half (handed_on (answer (suc below) leaves).windows value)
  unfolding comes_in
  child_reached {levels} {below} {node} {leaves} {value} reached child above half-within half-below =
      let left : height (length profile) - levels ≡ suc below = omega (arith, reached.in_tree) in
      record {
        in_tree = omega (arith, reached.in_tree);
        from = omega (arith, reached.from);
        to = omega (arith, reached.to);
        usable = half-within;
        leaves_below = half-below;
        value_within =
            handed_on_within (answer (suc below) leaves).windows (answer_sorted reached.usable (suc below)) (answer_bounded (suc below) leaves).some value
            reached.value_within;
        value_is = rw (above, left, ← reached.value_is) (ap (λ (term : Option ℕ). placed term value) (chosen_there reached));
      }

  -- the terms of a level below a node are gathered from the walk
  level_gathered : (depth : ℕ) {levels below node : ℕ} {leaves : List Window} {value : ℕ} → Reached levels below node leaves value → depth ≤ below
      → level_terms depth below leaves node value ≡ gathered term_at (node * 2 ^ depth) (2 ^ depth)
  unfolding level_terms gathered
  level_gathered zero {node = node} reached shallow = rw (mul-one node) (ap (λ (term : Option ℕ). with_term node term []) (left_there reached))
  level_gathered (suc depth) {below = zero} reached shallow = absurd (omega arith)
  level_gathered (suc depth) {below = suc below} {node} {leaves} reached shallow =
      let first : 2 * node * 2 ^ depth ≡ node * 2 ^ suc depth = rw (mul_comm 2 node, mul_assoc, pow-succ') in
      let second : (2 * node + 1) * 2 ^ depth ≡ node * 2 ^ suc depth + 2 ^ depth = rw (add-mul, one-mul, first) in
      let whole : 2 ^ depth + 2 ^ depth ≡ 2 ^ suc depth = omega arith in
      let left = child_reached reached (2 * node) (omega arith) (usable_take reached.usable (2 ^ below)) (below_left reached.leaves_below) in
      let right = child_reached reached (2 * node + 1) (omega arith) (usable_drop reached.usable (2 ^ below)) (below_right reached.leaves_below) in
      rw (level_gathered depth left (omega arith), level_gathered depth right (omega arith), first, second, gathered_append, whole)

  -- the first levels together
  levels_gathered : {leaves : List Window} → Usable leaves → Below (accepts profile bands) (height (length profile)) 1 leaves → (count : ℕ) → count ≤ suc (height (length profile))
      → upper_terms count (height (length profile)) leaves (lifted rest) ≡ gathered term_at 1 (2 ^ count - 1)
  unfolding upper_terms gathered comes_in
  levels_gathered within below zero in_tree = refl
  levels_gathered within below (suc count) in_tree =
      let reached : Reached 0 (height (length profile)) 1 _ (lifted rest) = record {
        in_tree = omega arith;
        from = omega arith;
        to = omega arith;
        usable = within;
        leaves_below = below;
        value_within = lifted_within rest in_range.rest_within;
        value_is = refl;
      } in
      let first : 1 * 2 ^ count ≡ 1 + (2 ^ count - 1) = omega (arith, pow_pos count) in
      let whole : 2 ^ count - 1 + 2 ^ count ≡ 2 ^ suc count - 1 = omega (arith, pow_pos count) in
      rw (levels_gathered within below count (omega arith), level_gathered count reached (omega arith), first, gathered_append, whole)

  -- all levels are all that the walk leaves
  upper_terms_walked : {leaves : List Window} → Usable leaves → Below (accepts profile bands) (height (length profile)) 1 leaves
      → upper_terms (suc (height (length profile))) (height (length profile)) leaves (lifted rest) ≡ walked_terms in_range bands
  upper_terms_walked within below =
      levels_gathered within below (suc (height (length profile))) (omega arith)
      ∙ ap (λ (count : ℕ). gathered term_at 1 (count - 1)) (pow-succ' 2 (height (length profile)))

  -- so for the windows of the profile's slots
  pub profile_walked : length bands ≡ length profile → upper_terms (suc (height (length profile))) (height (length profile)) (slot_windows bands profile) (lifted rest) ≡ walked_terms in_range bands
  profile_walked each_band = upper_terms_walked (windows_usable bands (profile_within in_range)) (slots_below profile bands each_band (profile_within in_range))

-- fewer levels have no more terms
module _ (height : ℕ) (leaves : List Window) (value : ℕ) where
  further_levels : (count further : ℕ) → length (upper_terms count height leaves value) ≤ length (upper_terms (count + further) height leaves value)
  unfolding upper_terms
  further_levels count zero = simp unary_clauses (omega arith)
  further_levels count (suc further) = let before = further_levels count further in simp (unary_clauses, length-append) (omega arith)

  pub fewer_levels : (fewer all : ℕ) → fewer ≤ all → length (upper_terms fewer height leaves value) ≤ length (upper_terms all height leaves value)
  fewer_levels fewer all fewer-or-as-many =
      let whole : fewer + (all - fewer) ≡ all = omega arith in
      rw whole at (further_levels fewer (all - fewer))
