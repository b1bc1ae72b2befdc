-- Building over a tree: the count for the bands gives the budget of the search, and the margin found the terms to trace.
use mathlib.Core.Path.{◌≡◌, subst}
use mathlib.Core.List.{List}
use Prim.Native.Nat.{ℕ}
use native.Mathlib.Omega.{arith}
use lib.IntN.{ℤ}
use lib.ListN.{length}
use Rattle.claims.specs.Inner.{narrowed}
use Rattle.windows.specs.Scratch.{at}
use Rattle.subtree.specs.Stretch.{Solved, Counted}
use Rattle.subtree.proofs.Slots.{windows_for, windows_usable}
use Rattle.trace.specs.Trace.{LevelsFit, LevelsTraced}
use Rattle.build.specs.Inner.{GreatestWithin, TreeFits, TreeBuilt}

module _ (top height value : ℕ) (setpoints : List ℤ) (bands nodes : List ℕ) (values before : List ℤ) (fits : TreeFits top height value setpoints bands nodes values before) where
  pub levels_fit : (later : List ℤ) (margin : ℕ) → length later ≡ length before → Solved height (windows_for margin bands setpoints) (at later) → LevelsFit later height value nodes values
  levels_fit later margin same_length solved = record {
    stretch = record {
      leaves = windows_for margin bands setpoints;
      usable = windows_usable (narrowed margin bands) fits.solvable.setpoints_within;
      solved = solved;
      in_tree = fits.solvable.in_tree;
      long = omega (arith, fits.solvable.room);
    };
    value_within = fits.value_within;
    room = fits.room margin;
    same_room = fits.same_room;
  }

  pub tree_built : (later last : List ℤ) (budget margin count : ℕ) (nodes' : List ℕ) (values' : List ℤ)
      → Counted height value (windows_for 0 bands setpoints) later budget → GreatestWithin top height value budget setpoints bands margin
      → Solved height (windows_for margin bands setpoints) (at last) → LevelsTraced last height value nodes nodes' values values' count
      → TreeBuilt top height value setpoints bands nodes nodes' values values' count margin
  tree_built later last budget margin count nodes' values' counted greatest solved traced = record {
    greatest = subst (λ (number : ℕ). GreatestWithin top height value number setpoints bands margin) counted.count_is greatest;
    traced = traced.each (windows_for margin bands setpoints) (windows_usable (narrowed margin bands) fits.solvable.setpoints_within) solved;
  }
