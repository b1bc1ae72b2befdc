-- Laws of `packed`: its bytes hold the field's bits and then zeros.
use mathlib.Core.Path.{◌≡◌, refl, sym, ap, ap₂, ◌∙◌, subst}
use mathlib.Core.List.{List, [], ◌∷◌, ◌++◌, append_assoc}
use mathlib.Core.Bool.{Bool, true, false}
use Prim.Native.Nat.{ℕ, zero, suc, ◌+◌, ◌-◌, ◌*◌, ◌^◌, ◌<◌, ◌≤◌}
use native.Mathlib.Nat.{le_of_suc-le-suc, sub-zero}
use native.Mathlib.Omega.{arith}
use lib.Dec.{ltb}
use lib.ListN.{length, take, drop, replicate, length-append, length-drop, length-replicate, take-append-drop, replicate-append-replicate, drop_of_length-le}
use lib.Seq.{take-append-le, take-append-add, length-take-le}
use borrow.Author.Tests.{ltb-true, ltb-false}
use Rattle.bits.specs.Bits.{bits, bits_of, number_of, packed}
use Rattle.bits.specs.Inner.{Below}
use Rattle.bits.proofs.Numbers.{nil_below, cons_below, append_below, take_below, drop_below, replicate_below}
use Rattle.bits.proofs.Fields.{number_below, bits_of_number}

pub length_packed : (count : ℕ) (field : List ℕ) → length (packed count field) ≡ count
unfolding packed
length_packed zero field = refl
length_packed (suc count) field = ap suc (length_packed count (drop 8 field))

-- the eight bits of a first byte
abbrev first_byte : List ℕ → List ℕ
first_byte field = take 8 (field ++ replicate 8 0)

length_first : (field : List ℕ) → length (first_byte field) ≡ 8
length_first field =
    length-take-le 8 (field ++ replicate 8 0) (omega (arith, length-append field (replicate 8 0), length-replicate {A = ℕ} 8 0))

first_below : (field : List ℕ) → Below 2 field → Below 2 (first_byte field)
first_below field below =
    take_below 8 (field ++ replicate 8 0) (append_below field (replicate 8 0) below (replicate_below 8 0 (omega arith) (omega arith)))

pub packed_below : (count : ℕ) (field : List ℕ) → Below 2 field → Below 256 (packed count field)
unfolding packed
packed_below zero field below = nil_below (omega arith)
packed_below (suc count) field below =
    cons_below (number_of (first_byte field)) (packed count (drop 8 field))
    (subst (λ (n : ℕ). number_of (first_byte field) < 2 ^ n) (length_first field) (number_below (first_byte field) (first_below field below)))
    (packed_below count (drop 8 field) (drop_below 8 field below))

take_replicate : (count all number : ℕ) → count ≤ all → take count (replicate all number) ≡ replicate count number
take_replicate zero all number fewer = refl
take_replicate (suc count) (suc all) number fewer = ap (λ (l : List ℕ). number ∷ l) (take_replicate count all number (le_of_suc-le-suc fewer))
take_replicate (suc count) zero number fewer = absurd (omega arith)

-- a byte's worth of bits and zeros, then what is left of them
module _ (field : List ℕ) (count : ℕ) where
  abbrev Whole : Type 0
  Whole = first_byte field ++ (drop 8 field ++ replicate (count * 8 - length (drop 8 field)) 0) ≡ field ++ replicate (suc count * 8 - length field) 0

  whole_byte : 8 ≤ length field → Whole
  whole_byte enough =
      let zeros : count * 8 - length (drop 8 field) ≡ suc count * 8 - length field = omega (arith, length-drop 8 field) in
      ap₂ (λ (l : List ℕ) (n : ℕ). l ++ (drop 8 field ++ replicate n 0)) (take-append-le 8 field (replicate 8 0) enough) zeros
      ∙ sym (append_assoc (take 8 field) (drop 8 field) (replicate (suc count * 8 - length field) 0))
      ∙ ap (λ (l : List ℕ). l ++ replicate (suc count * 8 - length field) 0) (take-append-drop 8 field)

  filled : length field < 8 → first_byte field ≡ field ++ replicate (8 - length field) 0
  filled few =
      let eight : 8 ≡ length field + (8 - length field) = omega arith in
      ap (λ (n : ℕ). take n (field ++ replicate 8 0)) eight
      ∙ take-append-add field (replicate 8 0) (8 - length field)
      ∙ ap (λ (l : List ℕ). field ++ l) (take_replicate (8 - length field) 8 0 (omega arith))

  part_byte : length field < 8 → Whole
  part_byte few =
      let none : drop 8 field ≡ [] = drop_of_length-le field {i = 8} (omega arith) in
      let zeros : 8 - length field + count * 8 ≡ suc count * 8 - length field = omega arith in
      rw (none, filled few, sub-zero (count * 8), append_assoc, replicate-append-replicate, zeros)

  first_and_rest : Whole
  first_and_rest = split (ltb (length field) 8) refl
    where
      split : (test : Bool) → ltb (length field) 8 ≡ test → Whole
      split true less = part_byte (ltb-true (length field) 8 less)
      split false not-less = whole_byte (ltb-false (length field) 8 not-less)

pub bits_of_packed : (count : ℕ) (field : List ℕ) → Below 2 field → length field ≤ count * 8
    → bits_of (packed count field) ≡ field ++ replicate (count * 8 - length field) 0
unfolding packed bits_of
bits_of_packed zero [] below room = refl
bits_of_packed zero (bit ∷ more) below room = absurd (omega arith)
bits_of_packed (suc count) field below room =
    let first : bits 8 (number_of (first_byte field)) ≡ first_byte field =
    ap (λ (n : ℕ). bits n (number_of (first_byte field))) (sym (length_first field)) ∙ bits_of_number (first_byte field) (first_below field below) in
    ap₂ (λ (l m : List ℕ). l ++ m) first (bits_of_packed count (drop 8 field) (drop_below 8 field below) (omega (arith, length-drop 8 field)))
    ∙ first_and_rest field count
