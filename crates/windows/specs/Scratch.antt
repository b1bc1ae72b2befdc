-- Numbers and windows in scratch, and what the functions on them ask and promise. A reader of the promises need not open this file.
use Rattle.std.specs.Prelude.{◌≡◌, List, [], ◌∷◌, ℕ, zero, suc, ◌+◌, ◌*◌, ◌-◌, ◌≤◌, ◌<◌, ℤ, pos, negsuc, length, get_or}
use Rattle.std.proofs.Math.IntN.{sub_ℕ}
use Rattle.windows.specs.Windows.{Window, Sorted, meet, join}

-- a signed 16-bit number as a number of 0 to 65,535, and back
abbrev pub word : ℤ → ℕ
word (pos n) = 32768 + n
word (negsuc n) = 32768 - suc n

abbrev pub signed : ℕ → ℤ
signed number = sub_ℕ number 32768

-- the number at a place of scratch
abbrev pub at : List ℤ → ℕ → ℕ
at scratch place = word (get_or scratch place (pos 0))

-- `count` windows from a place on, each as its low and its high end
unfoldable pub windows_at : (ℕ → ℕ) → ℕ → ℕ → List Window
windows_at read place zero = []
windows_at read place (suc count) = record { low = read place; high = read (place + 1) } ∷ windows_at read (place + 2) count

-- `count` sorted windows from a place on; the places of scratch that are used are below 65,536
pub record Listed (scratch : List ℤ) (place count : ℕ) : Type 0 where
  pub within : place + 2 * count ≤ length scratch
  pub small : place + 2 * count ≤ 65536
  pub sorted : Sorted 0 (windows_at (at scratch) place count)

-- two lists of windows in one stretch of scratch, and room before them, from place 2 on, for as many as both have
pub record Placed (places left leftCount right rightCount : ℕ) : Type 0 where
  pub room : 2 + 2 * (leftCount + rightCount) ≤ left
  pub apart : left + 2 * leftCount ≤ right
  pub within : right + 2 * rightCount ≤ places
  pub small : right + 2 * rightCount ≤ 65536

-- two such lists, both sorted
pub record Joinable (scratch : List ℤ) (left leftCount right rightCount : ℕ) : Type 0 where
  pub placed : Placed (length scratch) left leftCount right rightCount
  pub left_sorted : Sorted 0 (windows_at (at scratch) left leftCount)
  pub right_sorted : Sorted 0 (windows_at (at scratch) right rightCount)

-- room for one window behind `count` windows
pub record Room (places count : ℕ) : Type 0 where
  pub within : 2 + 2 * count + 2 ≤ places
  pub small : 2 + 2 * count + 2 ≤ 65536

-- windows from a place on, and room before them, behind `count` windows, for as many
pub record Copyable (places place windows count : ℕ) : Type 0 where
  pub room : 2 + 2 * (count + windows) ≤ place
  pub within : place + 2 * windows ≤ places
  pub small : place + 2 * windows ≤ 65536

-- after a list of windows was written from place 2 on, below `end`: its length, its windows, and the other places as before
pub record Written (windows : List Window) (end : ℕ) (before after : List ℤ) (count : ℕ) : Type 0 where
  pub count_is : count ≡ length windows
  pub windows_are : windows_at (at after) 2 count ≡ windows
  pub header_same : (place : ℕ) → place < 2 → at after place ≡ at before place
  pub others_same : (place : ℕ) → end ≤ place → at after place ≡ at before place

-- after what is in either of two lists was written from place 2 on, up to the first two windows that meet: what is left of the lists there, which has all that is in both;
-- nothing is left where no two windows meet, and the join is written
pub record Joined (left leftCount right rightCount : ℕ) (before after : List ℤ) (nextLeft lefts nextRight rights : ℕ) : Type 0 where
  pub header_same : (place : ℕ) → place < 2 → at after place ≡ at before place
  pub others_same : (place : ℕ) → 2 + 2 * (leftCount + rightCount) ≤ place → at after place ≡ at before place
  pub rest_placed : Placed (length before) nextLeft lefts nextRight rights
  pub rest_later : left ≤ nextLeft
  pub rest_fewer : lefts + rights ≤ leftCount + rightCount
  pub same_meet :
      meet (windows_at (at before) left leftCount) (windows_at (at before) right rightCount) ≡ meet (windows_at (at before) nextLeft lefts) (windows_at (at before) nextRight rights)
  pub some_meet : 0 < lefts → 0 < length (meet (windows_at (at before) nextLeft lefts) (windows_at (at before) nextRight rights))
  pub all_joined : lefts ≡ 0 → windows_at (at after) 2 (leftCount + rightCount) ≡ join (windows_at (at before) left leftCount) (windows_at (at before) right rightCount)
