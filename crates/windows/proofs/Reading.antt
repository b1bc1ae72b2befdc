-- Reading scratch: a number that was stored, a part of scratch, and the windows from a place on.
use mathlib.Core.Path.{◌≡◌, refl, ap, ◌∙◌}
use mathlib.Core.Logic.{◌≢◌}
use mathlib.Core.Bool.{Bool, true, false, cond}
use mathlib.Core.List.{List, [], ◌∷◌, ◌++◌}
use Prim.Native.Nat.{ℕ, zero, suc, ◌+◌, ◌*◌, ◌-◌, ◌≤◌, ◌<◌}
use native.Mathlib.Omega.{arith}
use lib.Dec.{ltb}
use lib.IntN.{ℤ, pos, negsuc}
use lib.ListN.{length, set, take, drop}
use lib.Seq.{get_or-set_same, get_or-set_other, get_or-take, get_or-drop}
use borrow.Author.Tests.{ltb-true, ltb-false}
use Rattle.windows.specs.Scratch.{word, signed, at, windows_at}

-- ---- numbers

pub word_signed : (n : ℕ) → n ≤ 65535 → word (signed n) ≡ n
word_signed n small = split (ltb n 32768) refl
  where
    split : (test : Bool) → ltb n 32768 ≡ test → word (cond test (negsuc (32768 - suc n)) (pos (n - 32768))) ≡ n
    split true below = omega (arith, ltb-true n 32768 below)
    split false above = omega (arith, ltb-false n 32768 above)

pub at_set_same : (scratch : List ℤ) (place n : ℕ) → place < length scratch → n ≤ 65535 → at (set scratch place (signed n)) place ≡ n
at_set_same scratch place n inside small = rw (get_or-set_same scratch place (signed n) (pos 0) inside) (word_signed n small)

pub at_set_other : (scratch : List ℤ) (place n other : ℕ) → other ≢ place → at (set scratch place (signed n)) other ≡ at scratch other
at_set_other scratch place n other apart = ap word (get_or-set_other scratch place other (signed n) (pos 0) apart)

-- a part of scratch from `start` on
pub at_part : (scratch : List ℤ) (start count place : ℕ) → place < count → at (take count (drop start scratch)) place ≡ at scratch (start + place)
at_part scratch start count place inside = ap word (get_or-take count (drop start scratch) place (pos 0) inside ∙ get_or-drop start scratch place (pos 0))

-- ---- windows

-- the windows are the same where the numbers of their places are
pub windows_same : (read other : ℕ → ℕ) (place count : ℕ) → ((k : ℕ) → place ≤ k → k < place + 2 * count → read k ≡ other k) → windows_at read place count ≡ windows_at other place count
unfolding windows_at
windows_same read other place zero same = refl
windows_same read other place (suc count) same =
    rw (same place (omega arith) (omega arith), same (place + 1) (omega arith) (omega arith), windows_same read other (place + 2) count (λ k above below. same k (omega arith) (omega arith)))

pub windows_shifted : (read : ℕ → ℕ) (start place count : ℕ) → windows_at (λ k. read (start + k)) place count ≡ windows_at read (start + place) count
unfolding windows_at
windows_shifted read start place zero = refl
windows_shifted read start place (suc count) =
    let one : start + (place + 1) ≡ start + place + 1 = omega arith in
    let two : start + (place + 2) ≡ start + place + 2 = omega arith in
    rw (windows_shifted read start (place + 2) count, one, two)

pub windows_length : (read : ℕ → ℕ) (place count : ℕ) → length (windows_at read place count) ≡ count
unfolding windows_at
windows_length read place zero = refl
windows_length read place (suc count) = ap suc (windows_length read (place + 2) count)

-- windows that follow on each other
pub windows_more : (read : ℕ → ℕ) (place count more : ℕ) → windows_at read place (count + more) ≡ windows_at read place count ++ windows_at read (place + 2 * count) more
unfolding windows_at
windows_more read place zero more =
    let none : 0 + more ≡ more = omega arith in
    let here : place + 2 * 0 ≡ place = omega arith in
    rw (none, here)
windows_more read place (suc count) more =
    let one : suc count + more ≡ suc (count + more) = omega arith in
    let next : place + 2 * suc count ≡ place + 2 + 2 * count = omega arith in
    rw (one, next, windows_more read (place + 2) count more)

-- the first window, and those after it
pub windows_first : (read : ℕ → ℕ) (place count : ℕ) → 0 < count
    → windows_at read place count ≡ record { low = read place; high = read (place + 1) } ∷ windows_at read (place + 2) (count - 1)
unfolding windows_at
windows_first read place count some =
    let one : count ≡ suc (count - 1) = omega arith in
    ap (windows_at read place) one

pub windows_none : (read : ℕ → ℕ) (place count : ℕ) → count ≤ 0 → windows_at read place count ≡ []
unfolding windows_at
windows_none read place count none = let empty : count ≡ 0 = omega arith in rw empty

-- what is left of `count` windows from a place on: where the next one is, and how many there are
pub record LeftOf (place count next left : ℕ) : Type 0 where
  pub ends : next + 2 * left ≡ place + 2 * count
  pub fewer : left ≤ count

pub all_left : (place count : ℕ) → LeftOf place count place count
all_left place count = record { ends = refl; fewer = omega arith }

pub one_passed : {place count next left : ℕ} → LeftOf place count next left → 0 < left → LeftOf place count (next + 2) (left - 1)
one_passed of_list some = record { ends = omega arith; fewer = omega arith }
