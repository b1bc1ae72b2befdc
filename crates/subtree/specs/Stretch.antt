-- The stretch of scratch that a subtree owns, and what inner functions ask and promise of it. A reader of the promises need not open this file.
-- A stretch holds the top's answer (its number, how many windows, room for one window a slot), then the left child's stretch, then the right child's.
use Rattle.std.specs.Prelude.{◌≡◌, List, [], ◌∷◌, ℕ, zero, suc, ◌+◌, ◌*◌, ◌-◌, ◌^◌, ◌≤◌, ◌<◌, ℤ, pos, nat_abs, length, get_or, take, drop}
use Rattle.histogram.specs.Errors.{slot_band}
use Rattle.windows.specs.Windows.{Window, Sorted}
use Rattle.windows.specs.Scratch.{at, windows_at}
use Rattle.subtree.specs.Answer.{Answer, every_value, combined, answer, needed}

-- the places of the top's own answer
abbrev pub own_places : ℕ → ℕ
own_places height = 2 + 2 * 2 ^ height

-- the places of the whole stretch
unfoldable pub places : ℕ → ℕ
places zero = own_places zero
places (suc height) = own_places (suc height) + places height + places height

-- the answer that stands at a place of scratch
abbrev pub answer_at : (ℕ → ℕ) → ℕ → Answer
answer_at read place = record { number = read place; windows = windows_at read (place + 2) (read (place + 1)) }

-- the stretch holds the answer of the subtree's top and, where terms are needed below it, those of its two halves
unfoldable pub Solved : ℕ → List Window → (ℕ → ℕ) → Type 0
Solved zero leaves read = answer_at read 0 ≡ answer zero leaves
Solved (suc height) leaves read =
    (answer_at read 0 ≡ answer (suc height) leaves)
    × (0 < (answer (suc height) leaves).number
    → Solved height (take (2 ^ height) leaves) (λ place. read (own_places (suc height) + place))
    × Solved height (drop (2 ^ height) leaves) (λ place. read (own_places (suc height) + places height + place)))

-- the stretches of a node's two children are solved, in the node's stretch
pub record Halves (height own middle : ℕ) (leaves : List Window) (scratch : List ℤ) : Type 0 where
  pub left_solved : Solved height (take (2 ^ height) leaves) (λ place. at scratch (own + place))
  pub right_solved : Solved height (drop (2 ^ height) leaves) (λ place. at scratch (middle + place))

-- windows that hold a value each, and none above 40,000
pub record Usable (leaves : List Window) : Type 0 where
  pub each : (leaf : ℕ) → Sorted 0 (get_or leaves leaf every_value ∷ [])

-- every setpoint within ±20,000
pub record Within (setpoints : List ℤ) : Type 0 where
  pub each : (slot : ℕ) → nat_abs (get_or setpoints slot (pos 0)) ≤ 20000

-- bands that a margin can be taken off
pub record Over (margin : ℕ) (bands : List ℕ) : Type 0 where
  pub each : (slot : ℕ) → slot < length bands → margin ≤ slot_band bands slot

-- no more setpoints than the subtree has leaves, as many bands with a margin to take off, and a stretch for the subtree
pub record Solvable (margin height : ℕ) (setpoints : List ℤ) (bands : List ℕ) (scratch : List ℤ) : Type 0 where
  pub few_slots : length setpoints ≤ 2 ^ height
  pub setpoints_within : Within setpoints
  pub each_band : length bands ≡ length setpoints
  pub bands_over : Over margin bands
  pub in_tree : height ≤ 9
  pub room : places height ≤ length scratch

-- where the two children of a node of a height begin and end: the left child's setpoints, and both children's stretches
pub record Planned (height half own middle end : ℕ) : Type 0 where
  pub below : height ≡ suc (height - 1)
  pub half_is : half ≡ 2 ^ (height - 1)
  pub both_halves : 2 ^ height ≡ half + half
  pub own_is : own ≡ own_places height
  pub middle_is : middle ≡ own + places (height - 1)
  pub end_is : end ≡ middle + places (height - 1)
  pub all_places : places height ≡ end
  pub few_places : end ≤ 12286

-- an answer's number and how many windows it has, written before its windows
pub record Headed (number count : ℕ) (before after : List ℤ) : Type 0 where
  pub number_is : at after 0 ≡ number
  pub count_is : at after 1 ≡ count
  pub others_same : (place : ℕ) → 2 ≤ place → at after place ≡ at before place

-- the answer of a leaf, by the window of its slot or with none
pub record LeafSolved (leaves : List Window) (scratch : List ℤ) : Type 0 where
  pub answer_is : answer_at (at scratch) 0 ≡ answer 0 leaves

-- the answers of two children in one stretch, below place 65,536, and room for the answer of the node above them
pub record Combinable (scratch : List ℤ) (left right : ℕ) : Type 0 where
  pub room : 2 + 2 * (at scratch (left + 1) + at scratch (right + 1)) ≤ left
  pub apart : left + 2 + 2 * at scratch (left + 1) ≤ right
  pub within : right + 2 + 2 * at scratch (right + 1) ≤ length scratch
  pub near : right + 2 + 2 * at scratch (right + 1) ≤ 65536
  pub small : at scratch left + at scratch right < 1024
  pub left_some : 1 ≤ at scratch (left + 1)
  pub right_some : 1 ≤ at scratch (right + 1)
  pub left_sorted : Sorted 0 (windows_at (at scratch) (left + 2) (at scratch (left + 1)))
  pub right_sorted : Sorted 0 (windows_at (at scratch) (right + 2) (at scratch (right + 1)))

-- the node's answer at the front, and the children as before
pub record CombinedAt (before after : List ℤ) (left right : ℕ) : Type 0 where
  pub answer_is : answer_at (at after) 0 ≡ combined (answer_at (at before) left) (answer_at (at before) right)
  pub others_same : (place : ℕ) → left ≤ place → at after place ≡ at before place

-- the answer of a node above two sets, by what the numbers of both children make up
abbrev pub above : (numbers : ℕ) → (left right : List Window) → Answer
above numbers left right = combined (record { number = numbers; windows = left }) (record { number = 0; windows = right })

-- the node's answer at the front, above two lists of windows, and the lists as before
pub record ListsCombined (numbers left lefts right rights : ℕ) (before after : List ℤ) : Type 0 where
  pub answer_is : answer_at (at after) 0 ≡ above numbers (windows_at (at before) left lefts) (windows_at (at before) right rights)
  pub others_same : (place : ℕ) → 2 + 2 * (lefts + rights) ≤ place → at after place ≡ at before place

-- the terms that the tree needs over its leaves, with its answers in scratch
pub record Counted (height value : ℕ) (leaves : List Window) (scratch : List ℤ) (count : ℕ) : Type 0 where
  pub count_is : count ≡ needed (answer height leaves) value
  pub solved : Solved height leaves (at scratch)
