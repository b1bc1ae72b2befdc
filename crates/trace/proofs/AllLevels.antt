-- One level after the other: the terms of the first levels, and the invariant of the loop that writes those of all.
use mathlib.Core.Path.{◌≡◌, sym, ap, ◌∙◌}
use mathlib.Core.List.{List, [], ◌++◌}
use Prim.Native.Nat.{ℕ, suc, ◌+◌, ◌-◌, ◌≤◌, ◌<◌, min}
use native.Mathlib.Omega.{arith}
use lib.IntN.{ℤ}
use lib.ListN.{length, length-append}
use lib.Pow.{pow_mono}
use Rattle.histogram.specs.declared.Term.{Term}
use Rattle.claims.specs.Inner.{with_term}
use Rattle.windows.specs.Scratch.{at}
use Rattle.subtree.specs.Answer.{Answer}
use Rattle.trace.specs.Trace.{change, handed_on, level_terms, upper_terms, set_at, SolvedStretch, TermFits, LevelFits, LevelsFit, Appended, Traced, LevelTraced, UpperTraced, LevelsTraced}
use Rattle.trace.proofs.Siblings.{terms_below_lem}
use Rattle.trace.proofs.Levels.{set_of, own_term, handed_in_set, handed_within}
use Rattle.trace.proofs.Stretches.{top_is, same_upper}
use Rattle.trace.proofs.Traced.{appended_first, traced_further, traced_long}
use Rattle.trace.proofs.Walked.{fewer_levels}

module _ {scratch : List ℤ} {height value : ℕ} {nodes : List ℕ} {values : List ℤ} (fits : LevelsFit scratch height value nodes values) where
  abbrev stretch : SolvedStretch height scratch
  stretch = fits.stretch

  -- the terms of the first levels
  abbrev upper : ℕ → List Term
  upper levels = upper_terms levels height stretch.leaves value

  upper_fits : (levels : ℕ) → levels ≤ suc height → length (upper levels) ≤ length nodes
  upper_fits levels in_tree = omega (arith, fits.room, fewer_levels height stretch.leaves value levels (suc height) in_tree)

  -- they are the same for all leaves whose answers the stretch holds
  for_each : (levels first : ℕ) {nodes' : List ℕ} {values' : List ℤ} {count : ℕ} → min levels (suc height) ≡ first → Traced (upper first) nodes nodes' values values' count
      → UpperTraced levels scratch height value nodes nodes' values values' count
  for_each levels first first_is traced = record {
    each = λ leaves usable solved.
        rw (first_is, same_upper first height (at scratch) value usable stretch.usable solved stretch.solved) traced;
  }

  -- those that are written so far
  so_far : {levels : ℕ} {nodes' : List ℕ} {values' : List ℤ} {count : ℕ} (first : ℕ) → min levels (suc height) ≡ first
      → UpperTraced levels scratch height value nodes nodes' values values' count → Traced (upper first) nodes nodes' values values' count
  so_far first first_is traced = rw first_is at (traced.each stretch.leaves stretch.usable stretch.solved)

  module _ {next : ℕ} (next_is : next ≡ handed_on (set_at scratch 0) value) where
    root_handed : next ≡ handed_on (set_of height stretch.leaves) value
    root_handed = next_is ∙ ap (λ (one : Answer). handed_on one.windows value) (top_is stretch)

    -- the root
    root_term_is : upper 1 ≡ with_term 1 (change value next) []
    unfolding upper_terms
    root_term_is =
        own_term height stretch.usable 1 value ∙ ap (λ (handed : ℕ). with_term 1 (change value handed) []) (sym root_handed)

    pub root_fits : TermFits 1 value next nodes values 0
    root_fits = record {
      node_within = omega arith;
      next_within = handed_within stretch value next root_handed;
      room = omega (arith, ap (λ (terms : List Term). length terms) root_term_is, upper_fits 1 (omega arith));
      same_room = fits.same_room;
    }

    module _ {nodes' : List ℕ} {values' : List ℤ} {count : ℕ} (root : Appended (with_term 1 (change value next) []) nodes nodes' values values' 0 count) where
      pub root_traced : Traced (upper 1) nodes nodes' values values' count
      root_traced = rw root_term_is (appended_first root)

      pub root_alone : height ≤ 0 → UpperTraced 2 scratch height value nodes nodes' values values' count
      root_alone lone = for_each 2 1 (omega arith) root_traced

    -- the next level
    module _ (depth : ℕ) (deeper : 1 ≤ depth) (inside : depth ≤ height) {nodes' : List ℕ} {values' : List ℤ} {count : ℕ} (traced : Traced (upper depth) nodes nodes' values values' count) where
      long : (length nodes' ≡ length nodes) × (length values' ≡ length nodes)
      long = traced_long traced (upper_fits depth (omega arith)) fits.same_room

      next_level : upper (suc depth) ≡ upper depth ++ level_terms depth height stretch.leaves 1 next
      unfolding upper_terms
      next_level =
          ap (λ (terms : List Term). upper depth ++ terms)
          (terms_below_lem depth height stretch.usable deeper 1 value ∙ ap (level_terms depth height stretch.leaves 1) (sym root_handed))

      -- is called with room for its terms
      pub level_fits : LevelFits scratch height depth 1 next nodes' values' count
      level_fits =
          let both : length (upper depth) + length (level_terms depth height stretch.leaves 1 next) ≤ length nodes =
          simp length-append at (rw next_level at (upper_fits (suc depth) (omega arith))) in
          record {
            stretch = stretch;
            in_subtree = inside;
            node_within = omega (arith, pow_mono {i = 1} {j = 10 - depth} (omega (arith, stretch.in_tree)));
            in_set = handed_in_set stretch value next root_handed;
            room = omega (arith, traced.count_is, long.0);
            same_room = omega (arith, long.0, long.1);
          }

      pub level_more : {nodes'' : List ℕ} {values'' : List ℤ} {more : ℕ} → LevelTraced scratch height depth 1 next nodes' nodes'' values' values'' count more
          → UpperTraced (depth + 1) scratch height value nodes nodes'' values values'' more
      level_more level =
          for_each (depth + 1) (suc depth) (omega arith)
          (rw next_level (traced_further (upper_fits depth (omega arith)) fits.same_room traced (level.each stretch.leaves stretch.usable stretch.solved)))

    -- a turn of the loop
    module _ {depth : ℕ} (deeper : 2 ≤ depth) (inside : depth ≤ height) {nodes' : List ℕ} {values' : List ℤ} {count : ℕ}
        (traced : UpperTraced depth scratch height value nodes nodes' values values' count) where
      pub turn_fits : LevelFits scratch height depth 1 next nodes' values' count
      turn_fits = level_fits depth (omega arith) inside (so_far depth (omega arith) traced)

      pub turn_traced : {nodes'' : List ℕ} {values'' : List ℤ} {more : ℕ} → LevelTraced scratch height depth 1 next nodes' nodes'' values' values'' count more
          → UpperTraced (depth + 1) scratch height value nodes nodes'' values values'' more
      turn_traced level = level_more depth (omega arith) inside (so_far depth (omega arith) traced) level

  -- the terms of all levels
  pub all_levels : {depth : ℕ} {nodes' : List ℕ} {values' : List ℤ} {count : ℕ} → height < depth → UpperTraced depth scratch height value nodes nodes' values values' count
      → LevelsTraced scratch height value nodes nodes' values values' count
  all_levels {depth} past traced =
      let all : min depth (suc height) ≡ suc height = omega arith in
      record { each = λ leaves usable solved. rw all at (traced.each leaves usable solved) }

-- whatever the terms of the first two levels were written over, those of the first `depth` levels now are
pub record LevelsSince (scratch : List ℤ) (height value : ℕ) (nodes nodes' : List ℕ) (values values' : List ℤ) (top count depth : ℕ) : Type 0 where
  pub deeper : 2 ≤ depth
  pub traced : {nodes₀ : List ℕ} {values₀ : List ℤ} → LevelsFit scratch height value nodes₀ values₀ → UpperTraced 2 scratch height value nodes₀ nodes values₀ values top
      → UpperTraced depth scratch height value nodes₀ nodes' values₀ values' count
