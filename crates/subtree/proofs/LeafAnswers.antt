-- The stores that make an answer's header and an answer of one window or of two, and the answer of a leaf.
use mathlib.Core.Path.{◌≡◌, ap, ap₂, ◌∙◌}
use mathlib.Core.List.{List, [], ◌∷◌}
use Prim.Native.Nat.{ℕ, ◌+◌, ◌-◌, ◌≤◌, min}
use native.Mathlib.Omega.{arith}
use lib.IntN.{ℤ, nat_abs}
use lib.ListN.{length, set, length-set}
use Rattle.claims.specs.Inner.{lifted}
use Rattle.claims.proofs.Lifted.{lifted_within}
use Rattle.windows.specs.Scratch.{signed, at, windows_at}
use Rattle.windows.proofs.Reading.{at_set_same, at_set_other}
use Rattle.subtree.specs.Answer.{slot_window, answer}
use Rattle.subtree.specs.Stretch.{answer_at, Headed, LeafSolved}
use Rattle.subtree.specs.Pair.{single, SlotEnds, SingleAt, DoubleWritten}

pub headed : (before : List ℤ) (number count : ℕ) → 2 ≤ length before → number ≤ 65535 → count ≤ 65535
    → Headed number count before (set (set before 0 (signed number)) 1 (signed count))
headed before number count long number_small count_small =
    let first : List ℤ = set before 0 (signed number) in
    record {
      number_is = at_set_other first 1 count 0 (λ same. omega arith) ∙ at_set_same before 0 number (omega arith) number_small;
      count_is = at_set_same first 1 count (rw length-set (omega arith)) count_small;
      others_same = λ place above. at_set_other first 1 count place (λ same. omega arith) ∙ at_set_other before 0 number place (λ same. omega arith);
    }

-- the four stores of an answer of one window
module _ (before : List ℤ) (place number low high : ℕ) (long : place + 4 ≤ length before) (number_small : number ≤ 65535) (low_small : low ≤ 65535) (high_small : high ≤ 65535) where
  abbrev numbered : List ℤ
  numbered = set before place (signed number)

  abbrev counted : List ℤ
  counted = set numbered (place + 1) (signed 1)

  abbrev begun : List ℤ
  begun = set counted (place + 2) (signed low)

  abbrev ended : List ℤ
  ended = set begun (place + 3) (signed high)

  number_at : at ended place ≡ number
  number_at =
      at_set_other begun (place + 3) high place (λ same. omega arith) ∙ at_set_other counted (place + 2) low place (λ same. omega arith)
      ∙ at_set_other numbered (place + 1) 1 place (λ same. omega arith) ∙ at_set_same before place number (omega arith) number_small

  count_at : at ended (place + 1) ≡ 1
  count_at =
      at_set_other begun (place + 3) high (place + 1) (λ same. omega arith) ∙ at_set_other counted (place + 2) low (place + 1) (λ same. omega arith)
      ∙ at_set_same numbered (place + 1) 1 (rw length-set (omega arith)) (omega arith)

  low_at : at ended (place + 2) ≡ low
  low_at = at_set_other begun (place + 3) high (place + 2) (λ same. omega arith) ∙ at_set_same counted (place + 2) low (simp length-set (omega arith)) low_small

  high_at : at ended (place + 2 + 1) ≡ high
  high_at = let last : place + 2 + 1 ≡ place + 3 = omega arith in ap (at ended) last ∙ at_set_same begun (place + 3) high (simp length-set (omega arith)) high_small

  elsewhere : (other : ℕ) → (other ≡ place → ⊥) → (other ≡ place + 1 → ⊥) → (other ≡ place + 2 → ⊥) → (other ≡ place + 3 → ⊥) → at ended other ≡ at before other
  elsewhere other not-number not-count not_low not-high =
      at_set_other begun (place + 3) high other not-high ∙ at_set_other counted (place + 2) low other not_low
      ∙ at_set_other numbered (place + 1) 1 other not-count ∙ at_set_other before place number other not-number

  answer_here : answer_at (at ended) place ≡ single number low high
  unfolding windows_at
  answer_here = rw (number_at, count_at, low_at, high_at)

  pub single_at : SingleAt place number low high before ended
  single_at = record {
    answer_is = answer_here;
    before_same = λ other below. elsewhere other (λ same. omega arith) (λ same. omega arith) (λ same. omega arith) (λ same. omega arith);
    behind_same = λ other above. elsewhere other (λ same. omega arith) (λ same. omega arith) (λ same. omega arith) (λ same. omega arith);
  }

-- the stores of two windows behind their header
module _ (before header : List ℤ) (number first-low first-high second-low second-high : ℕ) (long : 6 ≤ length header) (head : Headed number 2 before header)
    (first-low-small : first-low ≤ 65535) (first-high-small : first-high ≤ 65535) (second-low-small : second-low ≤ 65535) (second-high-small : second-high ≤ 65535) where
  abbrev first_begun : List ℤ
  first_begun = set header 2 (signed first-low)

  abbrev first_ended : List ℤ
  first_ended = set first_begun 3 (signed first-high)

  abbrev second_begun : List ℤ
  second_begun = set first_ended 4 (signed second-low)

  abbrev second_ended : List ℤ
  second_ended = set second_begun 5 (signed second-high)

  around : (other : ℕ) → (other ≡ 2 → ⊥) → (other ≡ 3 → ⊥) → (other ≡ 4 → ⊥) → (other ≡ 5 → ⊥) → at second_ended other ≡ at header other
  around other not-2 not-3 not-4 not-5 =
      at_set_other second_begun 5 second-high other not-5 ∙ at_set_other first_ended 4 second-low other not-4
      ∙ at_set_other first_begun 3 first-high other not-3 ∙ at_set_other header 2 first-low other not-2

  first_low_at : at second_ended 2 ≡ first-low
  first_low_at =
      at_set_other second_begun 5 second-high 2 (λ same. omega arith) ∙ at_set_other first_ended 4 second-low 2 (λ same. omega arith)
      ∙ at_set_other first_begun 3 first-high 2 (λ same. omega arith) ∙ at_set_same header 2 first-low (omega arith) first-low-small

  first_high_at : at second_ended 3 ≡ first-high
  first_high_at =
      at_set_other second_begun 5 second-high 3 (λ same. omega arith) ∙ at_set_other first_ended 4 second-low 3 (λ same. omega arith)
      ∙ at_set_same first_begun 3 first-high (simp length-set (omega arith)) first-high-small

  second_low_at : at second_ended 4 ≡ second-low
  second_low_at = at_set_other second_begun 5 second-high 4 (λ same. omega arith) ∙ at_set_same first_ended 4 second-low (simp length-set (omega arith)) second-low-small

  second_high_at : at second_ended 5 ≡ second-high
  second_high_at = at_set_same second_begun 5 second-high (simp length-set (omega arith)) second-high-small

  header_number : at second_ended 0 ≡ number
  header_number = around 0 (λ same. omega arith) (λ same. omega arith) (λ same. omega arith) (λ same. omega arith) ∙ head.number_is

  header_count : at second_ended 1 ≡ 2
  header_count = around 1 (λ same. omega arith) (λ same. omega arith) (λ same. omega arith) (λ same. omega arith) ∙ head.count_is

  both_at : answer_at (at second_ended) 0 ≡ record { number = number; windows = record { low = first-low; high = first-high } ∷ record { low = second-low; high = second-high } ∷ [] }
  unfolding windows_at
  both_at = rw (header_number, header_count, first_low_at, first_high_at, second_low_at, second_high_at)

  pub double_written : DoubleWritten number first-low first-high second-low second-high before second_ended
  double_written = record {
    answer_is = both_at;
    behind_same = λ other above. around other (λ same. omega arith) (λ same. omega arith) (λ same. omega arith) (λ same. omega arith) ∙ head.others_same other (omega arith);
  }

-- the ends of a slot's window
pub slot_ends : (band : ℕ) (setpoint : ℤ) (middle low high : ℕ) → nat_abs setpoint ≤ 20000 → middle ≡ lifted setpoint → low ≡ middle - band → high ≡ min (middle + band) 40000
    → SlotEnds band setpoint low high
slot_ends band setpoint middle low high within middle_is low_is high_is = record {
  low_is = omega arith;
  high_is = omega arith;
  low_small = omega (arith, lifted_within setpoint within);
}

-- the answer of a leaf, by the ends of its slot's window
pub leaf_is : (band : ℕ) (setpoint : ℤ) (low high : ℕ) → SlotEnds band setpoint low high → single 0 low high ≡ answer 0 (slot_window band setpoint ∷ [])
unfolding answer
leaf_is band setpoint low high ends = ap₂ (single 0) ends.low_is ends.high_is

pub leaf_solved : (band : ℕ) (setpoint : ℤ) (low high : ℕ) (before after : List ℤ) → SlotEnds band setpoint low high → SingleAt 0 0 low high before after
    → LeafSolved (slot_window band setpoint ∷ []) after
leaf_solved band setpoint low high before after ends written = record { answer_is = written.answer_is ∙ leaf_is band setpoint low high ends }

-- the answer of a filler leaf
pub filler_solved : (before after : List ℤ) → SingleAt 0 0 0 40000 before after → LeafSolved [] after
unfolding answer
filler_solved before after written = record { answer_is = written.answer_is }
