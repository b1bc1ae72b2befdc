-- The tree over a profile: its setpoints can be solved for, and it needs no more terms than it has leaves.
use mathlib.Core.Path.{◌≡◌, ◌∙◌}
use mathlib.Core.Bool.{Bool, true, false}
use mathlib.Core.List.{List}
use Prim.Native.Nat.{ℕ, ◌≤◌}
use native.Mathlib.Omega.{arith}
use lib.IntN.{ℤ}
use lib.ListN.{length}
use Rattle.histogram.specs.Tree.{height, padded}
use Rattle.histogram.proofs.Powers.{height_reaches, height_bound}
use Rattle.fewest.specs.Node.{missed}
use Rattle.claims.specs.Best.{InRange}
use Rattle.claims.specs.Inner.{lifted, fewest_terms, narrowed}
use Rattle.claims.proofs.Reduced.{length_narrowed}
use Rattle.windows.specs.Windows.{covers}
use Rattle.subtree.specs.Answer.{slot_windows, answer}
use Rattle.subtree.specs.Stretch.{Over, Solvable}
use Rattle.subtree.proofs.Places.{places_within}
use Rattle.subtree.proofs.Answers.{answer_bounded}
use Rattle.subtree.proofs.Rows.{profile_within, profile_needs}

missed_once : (test : Bool) → missed test ≤ 1
missed_once true = omega arith
missed_once false = omega arith

module _ {profile : List ℤ} {rest : ℤ} (in_range : InRange profile rest) (bands : List ℕ) (each_band : length bands ≡ length profile) where
  pub profile_solvable : length profile ≤ 512 → (margin : ℕ) → Over margin bands → (scratch : List ℤ) → 12288 ≤ length scratch
      → Solvable margin (height (length profile)) profile bands scratch
  profile_solvable few margin over scratch scratch_long = record {
    few_slots = height_reaches (length profile);
    setpoints_within = profile_within in_range;
    each_band = each_band;
    bands_over = over;
    in_tree = height_bound few;
    room = omega (arith, places_within (height (length profile)) (height_bound few));
  }

  -- bands less a margin are as many
  pub as_many_bands : (margin : ℕ) → length (narrowed margin bands) ≡ length profile
  as_many_bands margin = length_narrowed margin bands ∙ each_band

  -- the fewest terms are no more than the tree has leaves
  pub few_needed : (margin : ℕ) → fewest_terms profile rest (narrowed margin bands) ≤ padded (length profile)
  few_needed margin =
      let windows = slot_windows (narrowed margin bands) profile in
      let one = answer (height (length profile)) windows in
      omega (
        arith,
        profile_needs in_range (narrowed margin bands) (as_many_bands margin),
        (answer_bounded (height (length profile)) windows).below,
        missed_once (covers one.windows (lifted rest)),
      )
