-- Slots by their windows: a part of the setpoints and their bands has that part of the windows, each slot's window stands at its place, and all are usable.
use mathlib.Core.Path.{◌≡◌, refl, sym, ap, ap₂, subst, ◌∙◌}
use mathlib.Core.List.{List, [], ◌∷◌, map}
use mathlib.Core.Logic.{⊎_elim}
use Prim.Native.Nat.{ℕ, zero, suc, ◌-◌, ◌≤◌, ◌<◌, min}
use native.Mathlib.Omega.{arith}
use lib.IntN.{ℤ, pos}
use lib.ListN.{length, get_or, take, drop, drop_of_length-le}
use lib.Seq.{take_all}
use Rattle.limits.proofs.Parts.{to_end}
use Rattle.histogram.specs.Errors.{slot_band}
use Rattle.histogram.proofs.Order.{below_or_not}
use Rattle.claims.specs.Inner.{narrowed}
use Rattle.claims.proofs.Lifted.{lifted_within}
use Rattle.windows.specs.Windows.{Window, Sorted}
use Rattle.subtree.specs.Answer.{slot_window, slot_windows, every_value}
use Rattle.subtree.specs.Stretch.{Solved, Within, Usable}

map_take : {A B : Type 0} (f : A → B) (count : ℕ) (list : List A) → map f (take count list) ≡ take count (map f list)
map_take f zero list = refl
map_take f (suc count) [] = refl
map_take f (suc count) (a ∷ list) = ap (λ (rest : List _). f a ∷ rest) (map_take f count list)

map_drop : {A B : Type 0} (f : A → B) (count : ℕ) (list : List A) → map f (drop count list) ≡ drop count (map f list)
map_drop f zero list = refl
map_drop f (suc count) [] = refl
map_drop f (suc count) (a ∷ list) = map_drop f count list

-- a list that is cut at a count, or at its end where that comes first, has the parts that it has at the count
module _ {A : Type 0} (count : ℕ) (list : List A) where
  cut_front : take (min count (length list)) list ≡ take count list
  cut_front =
      ⊎_elim
      (λ within. let same : min count (length list) ≡ count = omega arith in rw same)
      (λ past. take_all (min count (length list)) list (omega arith) ∙ sym (take_all count list past))
      (below_or_not count (length list))

  cut_back : drop (min count (length list)) list ≡ drop count list
  cut_back =
      ⊎_elim
      (λ within. let same : min count (length list) ≡ count = omega arith in rw same)
      (λ past. drop_of_length-le list {i = min count (length list)} (omega arith) ∙ sym (drop_of_length-le list past))
      (below_or_not count (length list))

-- the window of every value holds one
pub every_value_usable : Sorted 0 (every_value ∷ [])
unfolding Sorted
every_value_usable = (omega arith, omega arith, omega arith, tt)

-- the windows of a part are that part of the windows
windows_take : (count : ℕ) (bands : List ℕ) (setpoints : List ℤ) → slot_windows (take count bands) (take count setpoints) ≡ take count (slot_windows bands setpoints)
windows_take zero bands setpoints = refl
windows_take (suc count) [] setpoints = refl
windows_take (suc count) (band ∷ bands) [] = refl
windows_take (suc count) (band ∷ bands) (setpoint ∷ setpoints) = ap (λ (rest : List Window). slot_window band setpoint ∷ rest) (windows_take count bands setpoints)

windows_drop : (count : ℕ) (bands : List ℕ) (setpoints : List ℤ) → slot_windows (drop count bands) (drop count setpoints) ≡ drop count (slot_windows bands setpoints)
windows_drop zero bands setpoints = refl
windows_drop (suc count) [] setpoints = refl
windows_drop (suc count) (band ∷ bands) [] = none (drop count bands)
  where
    none : (rest : List ℕ) → slot_windows rest [] ≡ []
    none [] = refl
    none (next ∷ rest) = refl
windows_drop (suc count) (band ∷ bands) (setpoint ∷ setpoints) = windows_drop count bands setpoints

-- the windows of setpoints for their bands less a margin
abbrev pub windows_for : ℕ → List ℕ → List ℤ → List Window
windows_for margin bands setpoints = slot_windows (narrowed margin bands) setpoints

module _ (margin : ℕ) (bands : List ℕ) (setpoints : List ℤ) (each_band : length bands ≡ length setpoints) where
  -- a part of the setpoints and bands that was solved, as part of the windows
  module _ (height count cut : ℕ) (cut_is : cut ≡ min count (length setpoints)) (read : ℕ → ℕ) where
    pub front_solved : Solved height (windows_for margin (take cut bands) (take cut setpoints)) read → Solved height (take count (windows_for margin bands setpoints)) read
    front_solved solved =
        let part : take cut setpoints ≡ take count setpoints = rw cut_is (cut_front count setpoints) in
        let same : cut ≡ min count (length bands) = omega arith in
        let bands_part : take cut bands ≡ take count bands = rw same (cut_front count bands) in
        subst (λ (leaves : List Window). Solved height leaves read)
        (ap₂ (windows_for margin) bands_part part
        ∙ ap (λ (narrow : List ℕ). slot_windows narrow (take count setpoints)) (map_take (λ band. band - margin) count bands)
        ∙ windows_take count (narrowed margin bands) setpoints)
        solved

    pub back_solved : (all : ℕ) → all ≡ length setpoints → Solved height (windows_for margin (take (all - cut) (drop cut bands)) (take (all - cut) (drop cut setpoints))) read
        → Solved height (drop count (windows_for margin bands setpoints)) read
    back_solved all all_are solved =
        let part : take (all - cut) (drop cut setpoints) ≡ drop count setpoints = rw (all_are, to_end cut setpoints, cut_is) (cut_back count setpoints) in
        let all_bands : all ≡ length bands = omega arith in
        let same : cut ≡ min count (length bands) = omega arith in
        let bands_part : take (all - cut) (drop cut bands) ≡ drop count bands = rw (all_bands, to_end cut bands, same) (cut_back count bands) in
        subst (λ (leaves : List Window). Solved height leaves read)
        (ap₂ (windows_for margin) bands_part part
        ∙ ap (λ (narrow : List ℕ). slot_windows narrow (drop count setpoints)) (map_drop (λ band. band - margin) count bands)
        ∙ windows_drop count (narrowed margin bands) setpoints)
        solved

pub length_windows : (bands : List ℕ) (setpoints : List ℤ) → length bands ≡ length setpoints → length (slot_windows bands setpoints) ≡ length setpoints
length_windows [] setpoints same = same
length_windows (band ∷ bands) [] same = absurd (omega arith)
length_windows (band ∷ bands) (setpoint ∷ setpoints) same = ap suc (length_windows bands setpoints (omega arith))

pub window_at_lem : (bands : List ℕ) (setpoints : List ℤ) → length bands ≡ length setpoints → (slot : ℕ) → slot < length setpoints
    → get_or (slot_windows bands setpoints) slot every_value ≡ slot_window (slot_band bands slot) (get_or setpoints slot (pos 0))
window_at_lem [] setpoints same slot inside = absurd (omega arith)
window_at_lem (band ∷ bands) [] same slot inside = absurd (omega arith)
window_at_lem (band ∷ bands) (setpoint ∷ setpoints) same zero inside = refl
window_at_lem (band ∷ bands) (setpoint ∷ setpoints) same (suc slot) inside = window_at_lem bands setpoints (omega arith) slot (omega arith)

usable_at : (bands : List ℕ) (setpoints : List ℤ) → Within setpoints → (slot : ℕ) → Sorted 0 (get_or (slot_windows bands setpoints) slot every_value ∷ [])
unfolding Sorted
usable_at [] setpoints within slot = every_value_usable
usable_at (band ∷ bands) [] within slot = every_value_usable
usable_at (band ∷ bands) (setpoint ∷ setpoints) within zero = let near = lifted_within setpoint (within.each 0) in (omega arith, omega arith, omega arith, tt)
usable_at (band ∷ bands) (setpoint ∷ setpoints) within (suc slot) = usable_at bands setpoints (record { each = λ later. within.each (suc later) }) slot

pub windows_usable : (bands : List ℕ) {setpoints : List ℤ} → Within setpoints → Usable (slot_windows bands setpoints)
windows_usable bands {setpoints} within = record { each = usable_at bands setpoints within }

-- ---- the windows of few slots

module _ (margin : ℕ) where
  -- the window of one slot, by its band less the margin
  abbrev pub window_of : List ℕ → List ℤ → ℕ → Window
  window_of bands setpoints slot = slot_window (slot_band bands slot - margin) (get_or setpoints slot (pos 0))

  pub no_slot : (bands : List ℕ) (setpoints : List ℤ) → length bands ≡ length setpoints → length setpoints ≡ 0 → windows_for margin bands setpoints ≡ []
  no_slot [] setpoints same none = refl
  no_slot (band ∷ bands) setpoints same none = absurd (omega arith)

  pub one_slot : (bands : List ℕ) (setpoints : List ℤ) → length bands ≡ length setpoints → length setpoints ≡ 1 → windows_for margin bands setpoints ≡ window_of bands setpoints 0 ∷ []
  one_slot [] setpoints same one = absurd (omega arith)
  one_slot (band ∷ bands) [] same one = absurd (omega arith)
  one_slot (band ∷ bands) (a ∷ others) same one = ap (λ (rest : List Window). slot_window (band - margin) a ∷ rest) (no_slot bands others (omega arith) (omega arith))

  pub two_slots : (bands : List ℕ) (setpoints : List ℤ) → length bands ≡ length setpoints → length setpoints ≡ 2
      → windows_for margin bands setpoints ≡ window_of bands setpoints 0 ∷ window_of bands setpoints 1 ∷ []
  two_slots [] setpoints same two = absurd (omega arith)
  two_slots (band ∷ bands) [] same two = absurd (omega arith)
  two_slots (band ∷ bands) (a ∷ others) same two = ap (λ (rest : List Window). slot_window (band - margin) a ∷ rest) (one_slot bands others (omega arith) (omega arith))

  -- the first two of some slots, and the last two of four
  pub first_two : (bands : List ℕ) (setpoints : List ℤ) → length bands ≡ length setpoints → 2 ≤ length setpoints
      → take 2 (windows_for margin bands setpoints) ≡ window_of bands setpoints 0 ∷ window_of bands setpoints 1 ∷ []
  first_two [] setpoints same two = absurd (omega arith)
  first_two (first ∷ bands) [] same two = absurd (omega arith)
  first_two (first ∷ []) (a ∷ others) same two = absurd (omega arith)
  first_two (first ∷ second ∷ bands) (a ∷ []) same two = absurd (omega arith)
  first_two (first ∷ second ∷ bands) (a ∷ b ∷ others) same two = refl

  pub last_two : (bands : List ℕ) (setpoints : List ℤ) → length bands ≡ length setpoints → length setpoints ≡ 4
      → drop 2 (windows_for margin bands setpoints) ≡ window_of bands setpoints 2 ∷ window_of bands setpoints 3 ∷ []
  last_two [] setpoints same four = absurd (omega arith)
  last_two (first ∷ bands) [] same four = absurd (omega arith)
  last_two (first ∷ []) (a ∷ others) same four = absurd (omega arith)
  last_two (first ∷ second ∷ bands) (a ∷ []) same four = absurd (omega arith)
  last_two (first ∷ second ∷ bands) (a ∷ b ∷ others) same four = two_slots bands others (omega arith) (omega arith)
