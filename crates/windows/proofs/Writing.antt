-- Windows written from place 2 of scratch on, one behind the other, while lists that lie further on are read.
use mathlib.Core.Path.{◌≡◌, refl, sym, ap, ◌∙◌}
use mathlib.Core.Logic.{◌≢◌}
use mathlib.Core.List.{List, [], ◌∷◌, ◌++◌, append_assoc, append-nil}
use Prim.Native.Nat.{ℕ, ◌+◌, ◌*◌, ◌-◌, ◌≤◌, ◌<◌}
use native.Mathlib.Omega.{arith}
use lib.IntN.{ℤ}
use lib.ListN.{length, set, length-set, length-append}
use Rattle.windows.specs.Windows.{Window}
use Rattle.windows.specs.Scratch.{signed, at, windows_at, Written}
use Rattle.windows.proofs.Reading.{at_set_same, at_set_other, windows_same, windows_length, windows_more, windows_first}

-- scratch after both ends of a window were stored behind `count` windows
abbrev pub stored : List ℤ → ℕ → ℕ → ℕ → List ℤ
stored before count low high = set (set before (2 + 2 * count) (signed low)) (2 + 2 * count + 1) (signed high)

module _ (before : List ℤ) (count low high : ℕ) (inside : 2 + 2 * count + 2 ≤ length before) (low_small : low ≤ 65535) (high_small : high ≤ 65535) where
  elsewhere : (place : ℕ) → place ≢ 2 + 2 * count → place ≢ 2 + 2 * count + 1 → at (stored before count low high) place ≡ at before place
  elsewhere place not_low not-high = at_set_other (set before (2 + 2 * count) (signed low)) (2 + 2 * count + 1) high place not-high ∙ at_set_other before (2 + 2 * count) low place not_low

  kept : windows_at (at (stored before count low high)) 2 count ≡ windows_at (at before) 2 count
  kept = windows_same _ _ 2 count (λ k above below. elsewhere k (λ same. omega arith) (λ same. omega arith))

  low_stored : at (stored before count low high) (2 + 2 * count) ≡ low
  low_stored =
      at_set_other (set before (2 + 2 * count) (signed low)) (2 + 2 * count + 1) high (2 + 2 * count) (λ same. omega arith)
      ∙ at_set_same before (2 + 2 * count) low (omega arith) low_small

  high_stored : at (stored before count low high) (2 + 2 * count + 1) ≡ high
  high_stored = at_set_same (set before (2 + 2 * count) (signed low)) (2 + 2 * count + 1) high (simp length-set (omega arith)) high_small

  added : windows_at (at (stored before count low high)) 2 (count + 1) ≡ windows_at (at before) 2 count ++ (record { low = low; high = high } ∷ [])
  unfolding windows_at
  added = windows_more _ 2 count 1 ∙ rw (kept, low_stored, high_stored)

  -- the window is written
  pub one_written : Written (windows_at (at before) 2 count ++ (record { low = low; high = high } ∷ [])) (2 + 2 * count + 2) before (stored before count low high) (count + 1)
  one_written =
      record {
        count_is = sym (length-append (windows_at (at before) 2 count) _ ∙ ap (λ (n : ℕ). n + 1) (windows_length (at before) 2 count));
        windows_are = added;
        header_same = λ place below. elsewhere place (λ same. omega arith) (λ same. omega arith);
        others_same = λ place above. elsewhere place (λ same. omega arith) (λ same. omega arith);
      }

-- no window is written
pub none_written : (before : List ℤ) (count end : ℕ) → Written (windows_at (at before) 2 count ++ []) end before before count
none_written before count end =
    rw append-nil
    (record {
      count_is = sym (windows_length (at before) 2 count);
      windows_are = refl;
      header_same = λ place below. refl;
      others_same = λ place above. refl;
    })

-- ---- a list of windows in the making

abbrev pub window_at : List ℤ → ℕ → Window
window_at scratch place = record { low = at scratch place; high = at scratch (place + 1) }

-- `count` windows are written below `end`, and with those to come they are `all`
pub record WrittenSoFar (all to-come : List Window) (end : ℕ) (before now : List ℤ) (count : ℕ) : Type 0 where
  pub same_length : length now ≡ length before
  pub windows_are : windows_at (at now) 2 count ++ to-come ≡ all
  pub header_same : (place : ℕ) → place < 2 → at now place ≡ at before place
  pub others_same : (place : ℕ) → end ≤ place → at now place ≡ at before place

pub none_so_far : (all : List Window) (end : ℕ) (before : List ℤ) → WrittenSoFar all all end before before 0
unfolding windows_at
none_so_far all end before = record { same_length = refl; windows_are = refl; header_same = λ place below. refl; others_same = λ place above. refl }

-- some of those to come were written behind
pub more_written : {all to-come later : List Window} {end count next : ℕ} {before now after : List ℤ} (more : List Window) → WrittenSoFar all to-come end before now count → to-come ≡ more ++ later
    → Written (windows_at (at now) 2 count ++ more) (2 + 2 * count + 2) now after next → length after ≡ length now → 2 + 2 * count + 2 ≤ end → WrittenSoFar all later end before after next
more_written more so_far split written long room =
    record {
      same_length = long ∙ so_far.same_length;
      windows_are = rw (written.windows_are, append_assoc, ← split) so_far.windows_are;
      header_same = λ place below. written.header_same place below ∙ so_far.header_same place below;
      others_same = λ place above. written.others_same place (omega arith) ∙ so_far.others_same place above;
    }

pub all_written : {all : List Window} {end count : ℕ} {before now : List ℤ} → WrittenSoFar all [] end before now count → Written all end before now count
all_written {count = count} {now = now} so_far =
    let all_are = rw append-nil at so_far.windows_are in
    record {
      count_is = sym (windows_length (at now) 2 count) ∙ ap length all_are;
      windows_are = all_are;
      header_same = so_far.header_same;
      others_same = so_far.others_same;
    }

-- a list that lies from `end` on is read as it was before
pub next_window : {all to-come : List Window} {end written : ℕ} {before now : List ℤ} → WrittenSoFar all to-come end before now written → (place left : ℕ) → end ≤ place → 0 < left
    → windows_at (at before) place left ≡ window_at now place ∷ windows_at (at before) (place + 2) (left - 1)
next_window {before = before} so_far place left far some =
    let low = so_far.others_same place far in
    let high = so_far.others_same (place + 1) (omega arith) in
    rw (low, high) (windows_first (at before) place left some)

-- the first window of those to come was copied from a place
pub one_copied : {all to-come later : List Window} {end count : ℕ} {before now after : List ℤ} (place : ℕ) → WrittenSoFar all to-come end before now count → to-come ≡ window_at now place ∷ later
    → Written (windows_at (at now) 2 count ++ windows_at (at now) place 1) (2 + 2 * count + 2) now after (count + 1) → length after ≡ length now → 2 + 2 * count + 2 ≤ end
    → WrittenSoFar all later end before after (count + 1)
unfolding windows_at
one_copied {now = now} place so_far split written long room = more_written (windows_at (at now) place 1) so_far split written long room
