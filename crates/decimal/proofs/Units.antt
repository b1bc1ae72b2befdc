-- The units that some bytes begin with: they are those of every front that holds them, and what follows them decides where the number ends.
use Rattle.std.proofs.Common.{◌≡◌, ℕ, zero, suc, ◌+◌, ◌-◌, ◌<◌, ◌≤◌, Bool, true, false, cond, leb, List, [], ◌∷◌, length, get_or, take, drop, sym, refl, ap, ◌∙◌, arith, length-drop, get_or-drop, eq-eqb, ne_eqb, leb-false, leb-true}
use lib.Seq.{take-nil}
use Rattle.decimal.specs.Number.{is_digit, leading_digits, unsigned}
use Rattle.decimal.specs.Inner.{in_number, with_units, UnitsRead, FrontRead}
use Rattle.decimal.proofs.Fronts.{no_byte, digit_in, not_both, none_in_front}

-- a front that is long enough begins with the same digits
digits_of_front : (most : ℕ) (bytes : List ℕ) (place : ℕ) → length (leading_digits most bytes) ≤ place → leading_digits most (take place bytes) ≡ leading_digits most bytes
unfolding leading_digits
digits_of_front zero bytes place enough = refl
digits_of_front (suc most) [] place enough = rw (take-nil {A = ℕ} place)
digits_of_front (suc most) (byte ∷ bytes) zero enough = by_first (is_digit byte) enough
  where
    by_first : (a_digit : Bool) → length (cond a_digit (byte ∷ leading_digits most bytes) []) ≤ 0 → [] ≡ cond a_digit (byte ∷ leading_digits most bytes) []
    by_first true enough' = absurd (omega arith)
    by_first false enough' = refl
digits_of_front (suc most) (byte ∷ bytes) (suc place) enough = by_first (is_digit byte) enough (digits_of_front most bytes place)
  where
    by_first : (a_digit : Bool) → length (cond a_digit (byte ∷ leading_digits most bytes) []) ≤ suc place
        → (length (leading_digits most bytes) ≤ place → leading_digits most (take place bytes) ≡ leading_digits most bytes)
        → cond a_digit (byte ∷ leading_digits most (take place bytes)) [] ≡ cond a_digit (byte ∷ leading_digits most bytes) []
    by_first true enough' shorter = ap (λ (l : List ℕ). byte ∷ l) (shorter (omega arith))
    by_first false enough' shorter = refl

-- leading digits are digits
digits_are : (most : ℕ) (bytes : List ℕ) (place : ℕ) → place < length (leading_digits most bytes) → is_digit (get_or bytes place 0) ≡ true
unfolding leading_digits
digits_are zero bytes place inside = absurd (omega arith)
digits_are (suc most) [] place inside = absurd (omega arith)
digits_are (suc most) (byte ∷ bytes) zero inside = by_first (is_digit byte) inside
  where
    by_first : (a_digit : Bool) → 0 < length (cond a_digit (byte ∷ leading_digits most bytes) []) → a_digit ≡ true
    by_first true inside' = refl
    by_first false inside' = absurd (omega arith)
digits_are (suc most) (byte ∷ bytes) (suc place) inside = by_first (is_digit byte) inside (digits_are most bytes place)
  where
    by_first : (a_digit : Bool) → suc place < length (cond a_digit (byte ∷ leading_digits most bytes) [])
        → (place < length (leading_digits most bytes) → is_digit (get_or bytes place 0) ≡ true) → is_digit (get_or bytes place 0) ≡ true
    by_first true inside' shorter = shorter (omega arith)
    by_first false inside' shorter = absurd (omega arith)

-- what bytes begin with, by their first
pub digit_inside : (bytes : List ℕ) → is_digit (get_or bytes 0 0) ≡ true → 0 < length bytes
digit_inside [] a_digit = absurd (no_byte a_digit)
digit_inside (byte ∷ bytes) a_digit = omega arith

pub no_leading : (most : ℕ) (bytes : List ℕ) → is_digit (get_or bytes 0 0) ≡ false → leading_digits most bytes ≡ []
unfolding leading_digits
no_leading zero bytes not_digit = refl
no_leading (suc most) [] not_digit = refl
no_leading (suc most) (byte ∷ bytes) not_digit = rw not_digit

pub next_leading : (most : ℕ) (bytes : List ℕ) → is_digit (get_or bytes 0 0) ≡ true → leading_digits (suc most) bytes ≡ get_or bytes 0 0 ∷ leading_digits most (drop 1 bytes)
unfolding leading_digits
next_leading most [] a_digit = absurd (no_byte a_digit)
next_leading most (byte ∷ bytes) a_digit = rw a_digit

drop_of_take : (count place : ℕ) (bytes : List ℕ) → drop count (take place bytes) ≡ take (place - count) (drop count bytes)
drop_of_take zero place bytes = let all : place - 0 ≡ place = omega arith in rw all
drop_of_take (suc count) zero bytes = let none_left : 0 - suc count ≡ 0 = omega arith in rw none_left
drop_of_take (suc count) (suc place) [] = rw (take-nil {A = ℕ} (suc place - suc count))
drop_of_take (suc count) (suc place) (byte ∷ bytes) = let same : suc place - suc count ≡ place - count = omega arith in rw same (drop_of_take count place bytes)

module _ (bytes : List ℕ) (count units : ℕ) (read : UnitsRead bytes count units) where
  of_front : (place : ℕ) → count ≤ place → leading_digits 3 (take place bytes) ≡ leading_digits 3 bytes
  of_front place enough = digits_of_front 3 bytes place (omega (arith, read.count_is))

  -- the units are digits, and a byte that is none of a number's stands behind them
  unit_in : (place : ℕ) → place < count → in_number (get_or bytes place 0) ≡ true
  unit_in place before = digit_in (get_or bytes place 0) (digits_are 3 bytes place (omega (arith, read.count_is)))

  behind : (place : ℕ) → in_number (get_or bytes place 0) ≡ false → count ≤ place
  behind place stops = by_test (leb count place) refl
    where
      by_test : (enough : Bool) → leb count place ≡ enough → count ≤ place
      by_test true is = leb-true count place is
      by_test false is = absurd (not_both (get_or bytes place 0) (unit_in place (leb-false count place is)) stops)

  pub no_units : count ≡ 0 → FrontRead unsigned bytes 0 (length bytes + 1)
  no_units zero-count = none_in_front bytes 0 (λ place inside stops. rw (of_front place (omega arith), eq-eqb (length (leading_digits 3 bytes)) 0 (sym read.count_is ∙ zero-count)))

  module _ (some-units : count ≡ 0 → ⊥) where
    -- what a front that holds the units means
    meaning : (place : ℕ) → count ≤ place → unsigned (take place bytes) ≡ with_units units (take (place - count) (drop count bytes))
    meaning place enough =
        rw (of_front place enough, ne_eqb (length (leading_digits 3 bytes)) 0 (λ zero-count. some-units (read.count_is ∙ zero-count)), ← read.count_is, ← read.units_is, drop_of_take count place bytes)

    module _ (number after : ℕ) (front : FrontRead (with_units units) (drop count bytes) number after) where
      -- the byte at a place behind the units
      byte_after : (place : ℕ) → count ≤ place → get_or (drop count bytes) (place - count) 0 ≡ get_or bytes place 0
      byte_after place enough = get_or-drop count bytes (place - count) 0 ∙ ap (λ (at : ℕ). get_or bytes at 0) (omega arith)

      all_in : count + after ≤ length bytes → (place : ℕ) → place < count + after → in_number (get_or bytes place 0) ≡ true
      all_in inside place before = by_test (leb count place) refl
        where
          by_test : (enough : Bool) → leb count place ≡ enough → in_number (get_or bytes place 0) ≡ true
          by_test true is =
              let enough = leb-true count place is in
              rw (← byte_after place enough) (front.unbroken (omega (arith, length-drop count bytes)) (place - count) (omega arith))
          by_test false is = unit_in place (leb-false count place is)

      pub units_first : FrontRead unsigned bytes number (count + after)
      units_first =
          let rest_is = length-drop count bytes in
          let behind_is : count + after - count ≡ after = omega arith in
          record {
            in_reach = omega (arith, front.in_reach, read.in_field);
            whole = λ inside. meaning (count + after) (omega arith) ∙ rw behind_is (front.whole (omega arith));
            unbroken = all_in;
            no_other = λ place inside stops other.
                let enough = behind place stops in
                meaning place enough ∙ front.no_other (place - count) (omega arith) (rw (byte_after place enough) stops) (λ same. other (omega arith));
          }
