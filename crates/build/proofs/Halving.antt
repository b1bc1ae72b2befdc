-- The search for the greatest margin by halving: what is known of the margins at both ends.
use mathlib.Core.Path.{◌≡◌}
use mathlib.Core.Bool.{Bool, true}
use mathlib.Core.List.{List}
use Prim.Native.Nat.{ℕ, suc, ◌≤◌, ◌<◌}
use lib.IntN.{ℤ}
use lib.ListN.{length}
use Rattle.claims.specs.Inner.{narrowed}
use Rattle.windows.specs.Scratch.{at}
use Rattle.subtree.specs.Answer.{terms_for}
use Rattle.subtree.specs.Stretch.{Solved}
use Rattle.subtree.proofs.Slots.{windows_for}

-- the margin `low` needs few enough terms, and the one above `high` too many, if there is one; where `solved` says so, scratch is solved for `low`
pub record Between (height value budget top : ℕ) (setpoints : List ℤ) (bands : List ℕ) (before scratch : List ℤ) (low high : ℕ) (solved : Bool) : Type 0 where
  pub same_length : length scratch ≡ length before
  pub ordered : low ≤ high
  pub within_top : high ≤ top
  pub enough : terms_for (narrowed low bands) height setpoints value ≤ budget
  pub next_not : high < top → budget < terms_for (narrowed (suc high) bands) height setpoints value
  pub in_scratch : solved ≡ true → Solved height (windows_for low bands setpoints) (at scratch)
