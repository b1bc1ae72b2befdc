-- A subtree with one slot or none needs no term: its answer is that of a leaf, whatever its height, and nothing below it is asked for.
use mathlib.Core.Path.{◌≡◌, refl, sym, ap, ◌∙◌}
use mathlib.Core.List.{List, [], ◌∷◌}
use Prim.Native.Nat.{ℕ, zero, suc, ◌-◌, ◌^◌, ◌≤◌}
use native.Mathlib.Omega.{arith}
use lib.IntN.{ℤ}
use lib.ListN.{length, get_or, take, drop, length-map, length-drop, drop_of_length-le}
use lib.Pow.{pow_pos}
use lib.Seq.{take_all}
use Rattle.claims.specs.Inner.{narrowed}
use Rattle.windows.specs.Windows.{Window, Sorted}
use Rattle.windows.specs.Scratch.{at}
use Rattle.subtree.specs.Answer.{Answer, every_value, combined, answer}
use Rattle.subtree.specs.Stretch.{Solved, Usable, Within, LeafSolved}
use Rattle.subtree.specs.Pair.{single}
use Rattle.subtree.proofs.Slots.{every_value_usable, windows_for, window_of, one_slot, length_windows, windows_usable}
use Rattle.subtree.proofs.Answers.{usable_drop}
use Rattle.subtree.proofs.Pairs.{both_met}

-- beside filler a leaf's answer is the node's
beside_filler : (window : Window) → Sorted 0 (window ∷ []) → combined (single 0 window.low window.high) (single 0 0 40000) ≡ single 0 window.low window.high
unfolding Sorted
beside_filler window sorted = sym (both_met 0 window.low window.high 0 40000 window.low window.high (omega arith) (omega (arith, sorted.2)) sorted.1)

no_slots_usable : Usable []
no_slots_usable = record { each = λ leaf. every_value_usable }

-- so it is at any height
pub answer_few : (height : ℕ) {leaves : List Window} → Usable leaves → length leaves ≤ 1 → answer height leaves ≡ answer 0 leaves
unfolding answer
answer_few zero usable few = refl
answer_few (suc height) {leaves} usable few =
    let front : take (2 ^ height) leaves ≡ leaves = take_all (2 ^ height) leaves (omega (arith, pow_pos height)) in
    let back : drop (2 ^ height) leaves ≡ [] = drop_of_length-le leaves {i = 2 ^ height} (omega (arith, pow_pos height)) in
    rw (front, back, answer_few height usable few, answer_few height no_slots_usable (omega arith)) (beside_filler (get_or leaves 0 every_value) (usable.each 0))

-- and a leaf's answer in front solves the whole stretch, since no term is needed below
pub few_solved : (height : ℕ) {leaves : List Window} → Usable leaves → length leaves ≤ 1 → (scratch : List ℤ) → LeafSolved leaves scratch → Solved height leaves (at scratch)
unfolding Solved answer
few_solved zero usable few scratch leaf = leaf.answer_is
few_solved (suc height) {leaves} usable few scratch leaf =
    let same = answer_few (suc height) usable few in
    (leaf.answer_is ∙ sym same, λ some. absurd (omega (arith, ap (λ (one : Answer). one.number) same)))

-- ---- what there is of a second pair

module _ (margin : ℕ) where
  no_second : (bands : List ℕ) (setpoints : List ℤ) → length bands ≡ length setpoints → length setpoints ≡ 2 → drop 2 (windows_for margin bands setpoints) ≡ []
  no_second [] setpoints same two = refl
  no_second (band ∷ bands) [] same two = refl
  no_second (band ∷ bands) (a ∷ others) same two = ap (drop 1) (one_slot margin bands others (omega arith) (omega arith))

  half_second : (bands : List ℕ) (setpoints : List ℤ) → length bands ≡ length setpoints → length setpoints ≡ 3 → drop 2 (windows_for margin bands setpoints) ≡ window_of margin bands setpoints 2 ∷ []
  half_second [] setpoints same three = absurd (omega arith)
  half_second (first ∷ []) setpoints same three = absurd (omega arith)
  half_second (first ∷ second ∷ bands) [] same three = absurd (omega arith)
  half_second (first ∷ second ∷ bands) (a ∷ []) same three = absurd (omega arith)
  half_second (first ∷ second ∷ bands) (a ∷ b ∷ others) same three = one_slot margin bands others (omega arith) (omega arith)

  module _ (bands : List ℕ) (setpoints right : List ℤ) (within : Within setpoints) (each_band : length bands ≡ length setpoints) where
    windows_long : length (windows_for margin bands setpoints) ≡ length setpoints
    windows_long = length_windows (narrowed margin bands) setpoints (length-map bands (λ band. band - margin) ∙ each_band)

    second_few : length setpoints ≤ 3 → LeafSolved (drop 2 (windows_for margin bands setpoints)) right → Solved 1 (drop 2 (windows_for margin bands setpoints)) (at right)
    second_few few leaf =
        few_solved 1 (usable_drop (windows_usable (narrowed margin bands) within) 2) (omega (arith, length-drop 2 (windows_for margin bands setpoints), windows_long)) right leaf

    pub second_leaf : length setpoints ≡ 3 → LeafSolved (window_of margin bands setpoints 2 ∷ []) right → Solved 1 (drop 2 (windows_for margin bands setpoints)) (at right)
    second_leaf three leaf = second_few (omega arith) (rw (half_second bands setpoints each_band three) leaf)

    pub second_filler : length setpoints ≡ 2 → LeafSolved [] right → Solved 1 (drop 2 (windows_for margin bands setpoints)) (at right)
    second_filler two leaf = second_few (omega arith) (rw (no_second bands setpoints each_band two) leaf)
