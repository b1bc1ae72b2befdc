-- The fewest terms, for lists of terms, document 000, section 6.1: no list that keeps has fewer than `fewest`, and the list of the walk keeps with just so many.
-- The list's length is a sum over the tree, and keeping is fitting from the root: so both bounds hold as they do for a subtree.
use mathlib.Core.Path.{sym, ◌∙◌}
use mathlib.Core.Bool.{Bool}
use mathlib.Core.List.{List}
use Prim.Native.Nat.{ℕ, ◌≤◌}
use native.Mathlib.Omega.{arith}
use lib.ListN.{length}
use Rattle.fewest.specs.Tree.{Shape}
use Rattle.fewest.specs.Cost.{fewest}
use Rattle.fewest.specs.Walk.{Keeps, Greedy, Made}
use Rattle.fewest.specs.Terms.{lookup, Listed, Smallest}
use Rattle.fewest.specs.Row.{Inhabited}
use Rattle.fewest.proofs.LowerBound.{no_subtree_below_cost}
use Rattle.fewest.proofs.Reached.{walk_reaches_cost}
use Rattle.fewest.proofs.Path.{keeps_fits, fits_keeps}
use Rattle.fewest.proofs.Pointwise.{made_is_walk}
use Rattle.fewest.proofs.Length.{looked_up_within, length_is_sum}

module _ {Term : Type 0} (node value : Term → ℕ) (shape : Shape) (accepts : ℕ → ℕ → Bool) (top height rest : ℕ) where
  -- a list that keeps has at least the fewest terms
  pub keeping_needs_fewest : (terms : List Term) → Listed node value shape height top 0 terms → Keeps shape accepts height rest (lookup node value terms)
      → fewest shape accepts top height rest ≤ length terms
  keeping_needs_fewest terms listed keeps =
      omega (
        arith,
        no_subtree_below_cost shape accepts top (lookup node value terms) (looked_up_within node value shape height top 0 terms listed) height 1 rest
            (keeps_fits shape (lookup node value terms) accepts height rest keeps),
        length_is_sum node value shape height top 0 terms listed,
      )

  -- the list of the walk keeps with just the fewest terms, where every leaf accepts some value
  pub walk_reaches_fewest : ((n : ℕ) → Inhabited top (accepts n)) → (terms : List Term) → Listed node value shape height top 0 terms
      → Greedy shape accepts top (lookup node value terms) height 1 rest → Smallest node value shape accepts top height rest terms
  walk_reaches_fewest some_value terms listed walked =
      let reached = walk_reaches_cost shape accepts top (lookup node value terms) some_value height 1 rest walked in
      record {
        keeps = fits_keeps shape (lookup node value terms) accepts height rest reached.fits;
        length_is = sym (length_is_sum node value shape height top 0 terms listed) ∙ reached.terms_are;
      }

  -- the same for a list made node by node
  pub made_reaches_fewest : ((n : ℕ) → Inhabited top (accepts n)) → (terms : List Term) → Listed node value shape height top 0 terms
      → Made shape accepts top height rest (lookup node value terms) → Smallest node value shape accepts top height rest terms
  made_reaches_fewest some_value terms listed made =
      walk_reaches_fewest some_value terms listed (made_is_walk shape accepts top height rest (lookup node value terms) made)
