-- Two leaves and the node above them: its answer from their two windows, and the stretch that is then solved.
use mathlib.Core.Path.{◌≡◌, refl, sym, ap, ap₂, ◌∙◌}
use mathlib.Core.Bool.{Bool, true, false, cond}
use mathlib.Core.Logic.{⊎_elim}
use mathlib.Core.List.{List, [], ◌∷◌}
use Prim.Native.Nat.{ℕ, zero, suc, ◌+◌, ◌^◌, ◌≤◌, ◌<◌, min, max}
use native.Mathlib.Omega.{arith}
use lib.IntN.{ℤ}
use lib.ListN.{length, take, drop}
use borrow.Author.Tests.{le-leb, lt-leb, lt-ltb, le-ltb}
use Rattle.histogram.proofs.Order.{below_or_not}
use Rattle.windows.specs.Windows.{Window, meet, join}
use Rattle.windows.specs.Scratch.{at}
use Rattle.subtree.specs.Answer.{Answer, slot_window, combined, answer}
use Rattle.subtree.specs.Stretch.{places, answer_at, Solved, Halves, Planned, above}
use Rattle.subtree.specs.Pair.{one_window, single, SlotEnds, SingleAt, DoubleWritten, SinglesCombined, LeavesWritten, PairSolved}
use Rattle.subtree.proofs.Places.{planned}
use Rattle.subtree.proofs.Slots.{windows_for, window_of, two_slots, first_two, last_two}
use Rattle.subtree.proofs.LeafAnswers.{leaf_is}
use Rattle.subtree.proofs.Solving.{ChildrenSolved, count_of, answer_same, answer_shifted}

neither : (test : Bool) → cond {A = List Window} test [] [] ≡ []
neither true = refl
neither false = refl

-- the node's answer, where two windows meet and where they do not
module _ (numbers left-low left-high right-low right-high low high : ℕ) (low_is : low ≡ max left-low right-low) (high_is : high ≡ min left-high right-high) where
  abbrev node : Answer
  node = above numbers (one_window left-low left-high) (one_window right-low right-high)

  sum : numbers + 0 ≡ numbers
  sum = omega arith

  pub both_met : low ≤ high → single numbers low high ≡ node
  unfolding meet
  both_met met = rw (← low_is, ← high_is, le-leb low high met, neither, sum)

  right_first : high < low → right-low < left-low
      → record { number = numbers + 1; windows = record { low = right-low; high = right-high } ∷ record { low = left-low; high = left-high } ∷ [] } ≡ node
  unfolding meet join
  right_first apart lower = rw (← low_is, ← high_is, lt-leb low high apart, neither, lt-ltb right-low left-low lower, sum)

  left_first : high < low → left-low ≤ right-low
      → record { number = numbers + 1; windows = record { low = left-low; high = left-high } ∷ record { low = right-low; high = right-high } ∷ [] } ≡ node
  unfolding meet join
  left_first apart lower = rw (← low_is, ← high_is, lt-leb low high apart, neither, le-ltb right-low left-low lower, sum)

  module _ (before after : List ℤ) where
    pub singles_meet : low ≤ high → SingleAt 0 numbers low high before after → SinglesCombined numbers left-low left-high right-low right-high before after
    singles_meet met written = record {
      answer_is = written.answer_is ∙ both_met met;
      behind_same = λ other behind. written.behind_same other (omega arith);
    }

    pub right_lower : high < low → right-low < left-low → DoubleWritten (numbers + 1) right-low right-high left-low left-high before after
        → SinglesCombined numbers left-low left-high right-low right-high before after
    right_lower apart lower written = record { answer_is = written.answer_is ∙ right_first apart lower; behind_same = written.behind_same }

    pub left_lower : high < low → left-low ≤ right-low → DoubleWritten (numbers + 1) left-low left-high right-low right-high before after
        → SinglesCombined numbers left-low left-high right-low right-high before after
    left_lower apart lower written = record { answer_is = written.answer_is ∙ left_first apart lower; behind_same = written.behind_same }

-- an answer of one window stays while the places that it stands at do
still_answer : (place low high : ℕ) (written after : List ℤ) → answer_at (at written) place ≡ single 0 low high
    → ((other : ℕ) → place ≤ other → other < place + 4 → at after other ≡ at written other) → answer_at (at after) place ≡ single 0 low high
still_answer place low high written after is same =
    let one : at written (place + 1) ≤ 1 = omega (arith, count_of (at written) place (single 0 low high) is) in
    sym (answer_same (at written) (at after) place 1 one (λ other above below. sym (same other above (omega arith)))) ∙ is

-- two answers of one window, the second behind the first
pub both_written : (left-low left-high right-low right-high : ℕ) (before first after : List ℤ) → SingleAt 6 0 left-low left-high before first → SingleAt 10 0 right-low right-high first after
    → LeavesWritten left-low left-high right-low right-high after
both_written left-low left-high right-low right-high before first after of_left of_right = record {
  left_is = λ _. still_answer 6 left-low left-high first after of_left.answer_is (λ other above below. of_right.before_same other below);
  right_is = λ _. of_right.answer_is;
}

-- of two windows that meet nothing is to be written
pub none_written : (left-low left-high right-low right-high : ℕ) (after : List ℤ) → max left-low right-low ≤ min left-high right-high
    → LeavesWritten left-low left-high right-low right-high after
none_written left-low left-high right-low right-high after met = record { left_is = λ apart. absurd (omega arith); right_is = λ apart. absurd (omega arith) }

pub pair_solved : (left-band right-band : ℕ) (left right : ℤ) (left-low left-high right-low right-high : ℕ) (before after : List ℤ)
    → SlotEnds left-band left left-low left-high → SlotEnds right-band right right-low right-high
    → LeavesWritten left-low left-high right-low right-high before → SinglesCombined 0 left-low left-high right-low right-high before after
    → PairSolved (slot_window left-band left) (slot_window right-band right) after
unfolding Solved answer places
pair_solved left-band right-band left right left-low left-high right-low right-high before after left_ends right_ends of-leaves of-both =
    let left_is = leaf_is left-band left left-low left-high left_ends in
    let right_is = leaf_is right-band right right-low right-high right_ends in
    let node_is = ap₂ combined left_is right_is in
    record {
      all_solved = (
        of-both.answer_is ∙ node_is,
        λ some.
            let apart : min left-high right-high < max left-low right-low =
            ⊎_elim
            (λ below. below)
            (λ met. absurd (omega (arith, ap (λ (one : Answer). one.number) (both_met 0 left-low left-high right-low right-high _ _ refl refl met ∙ node_is))))
            (below_or_not (min left-high right-high) (max left-low right-low)) in (
              answer_shifted (at after) 6 ∙ still_answer 6 left-low left-high before after (of-leaves.left_is apart) (λ other above below. of-both.behind_same other above) ∙ left_is,
              answer_shifted (at after) 10 ∙ still_answer 10 right-low right-high before after (of-leaves.right_is apart) (λ other above below. of-both.behind_same other (omega arith)) ∙ right_is,
            ),
      );
    }

-- two slots below a node of height 1 at the most are the two that it has, and it has 14 places
pub pair_places : (height : ℕ) → 2 ≤ 2 ^ height → height ≤ 1 → places height ≡ 14
unfolding places
pair_places zero two few = absurd (omega arith)
pair_places (suc zero) two few = refl
pair_places (suc (suc height)) two few = absurd (omega arith)

module _ (margin : ℕ) (bands : List ℕ) (setpoints after : List ℤ) (each_band : length bands ≡ length setpoints) where
  -- two slots of them, as a pair
  abbrev PairAt : (first second : ℕ) → Type 0
  PairAt first second = PairSolved (window_of margin bands setpoints first) (window_of margin bands setpoints second) after

  pub pair_whole : (height : ℕ) → height ≤ 1 → 2 ≤ length setpoints → length setpoints ≤ 2 ^ height → PairAt 0 1 → Solved height (windows_for margin bands setpoints) (at after)
  pair_whole zero few two slots pair = absurd (omega arith)
  pair_whole (suc zero) few two slots pair = rw (two_slots margin bands setpoints each_band (omega arith)) pair.all_solved
  pair_whole (suc (suc height)) few two slots pair = absurd (omega arith)

  -- below a node of four leaves: the first pair
  pub first_solved : 2 ≤ length setpoints → PairAt 0 1 → Solved 1 (take 2 (windows_for margin bands setpoints)) (at after)
  first_solved two pair = rw (first_two margin bands setpoints each_band two) pair.all_solved

  -- the second one, where it is whole
  pub second_solved : length setpoints ≡ 4 → PairAt 2 3 → Solved 1 (drop 2 (windows_for margin bands setpoints)) (at after)
  second_solved four pair = rw (last_two margin bands setpoints each_band four) pair.all_solved

pub four_places : places 2 ≡ 38
unfolding places
four_places = refl

pub four_planned : Planned 2 2 10 24 38
unfolding places
four_planned = planned 2 2 14 (omega arith) (omega arith) refl refl

-- the children of a node of four leaves, once both pairs are written
pub pairs_solved : {height : ℕ} {leaves : List Window} {before scratch : List ℤ} → height ≡ 2 → Halves 1 10 24 leaves scratch → length scratch ≡ length before
    → ChildrenSolved height 10 24 leaves before scratch
pairs_solved two both same_length = record { half = 2; end = 38; planned = rw two four_planned; both = rw two both; same_length = same_length }
