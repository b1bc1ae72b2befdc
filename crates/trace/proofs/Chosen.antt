-- What is chosen at a node, and what it hands on: its lowest value is the first number of the first window, at most 40,000.
use mathlib.Core.Path.{◌≡◌, refl, sym, ap, ◌∙◌}
use mathlib.Core.Bool.{Bool, true, false, cond, true≢false}
use mathlib.Core.Option.{none, some}
use mathlib.Core.List.{List, [], ◌∷◌}
use Prim.Native.Nat.{ℕ, zero, suc, ◌+◌, ◌≤◌}
use native.Mathlib.Omega.{arith}
use lib.IntN.{ℤ}
use lib.Ieee.Bits.{is_true}
use lib.ListN.{length}
use borrow.Author.Tests.{eq-eqb, ne_eqb}
use Rattle.fewest.specs.Node.{placed}
use Rattle.windows.specs.Windows.{Window, covers, Sorted}
use Rattle.windows.specs.Scratch.{at, windows_at}
use Rattle.windows.proofs.Sets.{first_within, first_inside}
use Rattle.trace.specs.Trace.{lowest, choice, handed_on, change, set_at, Answered}

pub lowest_within : (windows : List Window) → Sorted 0 windows → 1 ≤ length windows → lowest windows ≤ 40000
lowest_within [] sorted filled = absurd (omega arith)
lowest_within (window ∷ windows) sorted filled = first_within window windows 0 sorted

-- a value of the set is handed on as it comes in, and another makes way for the lowest of the set
pub handed_on_inside : (windows : List Window) (value : ℕ) → covers windows value ≡ true → handed_on windows value ≡ value
handed_on_inside windows value inside = rw inside

pub handed_on_outside : (windows : List Window) (value : ℕ) → covers windows value ≡ false → handed_on windows value ≡ lowest windows
handed_on_outside windows value outside = rw outside

module _ (windows : List Window) (sorted : Sorted 0 windows) (filled : 1 ≤ length windows) (value : ℕ) where
  -- the value handed on is at most 40,000
  pub handed_on_within : value ≤ 40000 → handed_on windows value ≤ 40000
  handed_on_within within = split (covers windows value)
    where
      split : (test : Bool) → placed (cond test none (some (lowest windows))) value ≤ 40000
      split true = within
      split false = lowest_within windows sorted filled

  lowest_inside : covers windows (lowest windows) ≡ true
  lowest_inside = split windows sorted filled
    where
      split : (some-windows : List Window) → Sorted 0 some-windows → 1 ≤ length some-windows → covers some-windows (lowest some-windows) ≡ true
      split [] of-these none_there = absurd (omega arith)
      split (window ∷ others) of-these some-there = is_true (covers (window ∷ others) window.low) (first_inside window others 0 of-these)

  -- and in the set
  pub handed_on_in_set : covers windows (handed_on windows value) ≡ true
  handed_on_in_set = split (covers windows value) refl
    where
      split : (test : Bool) → covers windows value ≡ test → covers windows (placed (cond test none (some (lowest windows))) value) ≡ true
      split true inside = inside
      split false outside = lowest_inside

  -- so it is handed on again
  pub handed_on_twice : handed_on windows (handed_on windows value) ≡ handed_on windows value
  handed_on_twice = handed_on_inside windows (handed_on windows value) handed_on_in_set

  -- a node has a term where it hands on another value than comes in
  pub choice_is_change : choice windows value ≡ change value (handed_on windows value)
  choice_is_change = split (covers windows value) refl
    where
      other : covers windows value ≡ false → lowest windows ≡ value → true ≡ false
      other outside same = sym lowest_inside ∙ ap (covers windows) same ∙ outside

      split : (test : Bool) → covers windows value ≡ test → cond test none (some (lowest windows)) ≡ change value (placed (cond test none (some (lowest windows))) value)
      split true inside = rw (eq-eqb value value refl)
      split false outside = rw (ne_eqb (lowest windows) value (λ same. true≢false (other outside same)))

-- the lowest value of the windows at a place
lowest_at : (read : ℕ → ℕ) (place count : ℕ) → 1 ≤ count → lowest (windows_at read place count) ≡ read place
unfolding windows_at
lowest_at read place zero filled = absurd (omega arith)
lowest_at read place (suc count) filled = refl

module _ {scratch : List ℤ} {place : ℕ} (there : Answered scratch place) where
  pub lowest_there : lowest (set_at scratch place) ≡ at scratch (place + 2)
  lowest_there = lowest_at (at scratch) (place + 2) (at scratch (place + 1)) there.not_empty
