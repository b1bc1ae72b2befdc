-- No number is longer than the longest: a minus, three digits, a comma and three digits.
use Rattle.std.proofs.Common.{◌≡◌, ℕ, zero, suc, ◌<◌, ◌≤◌, Bool, true, false, cond, ◌&&◌, eqb, leb, List, [], ◌∷◌, length, drop, refl, arith, length-drop}
use mathlib.Core.Option.{Option, none}
use Rattle.decimal.specs.Number.{longest_number, is_digit, is_mark, most_digits, leading_digits, hundredths, fraction, unsigned, reads_as}

-- none in either case of a test
pub either_none : {A : Type 0} (test : Bool) (x y : Option A) → x ≡ none → y ≡ none → cond test x y ≡ none
either_none true x y none-x none-y = none-x
either_none false x y none-x none-y = none-y

-- bytes that are no digits after a mark are no fraction
pub none_after : (mark : ℕ) (field : List ℕ) → hundredths field ≡ none → fraction (mark ∷ field) ≡ none
none_after mark field nothing = either_none (is_mark mark && leb (length field) (most_digits mark)) (hundredths field) none nothing refl

-- four bytes after the mark
too_long_after_mark : (field : List ℕ) → 4 ≤ length field → hundredths field ≡ none
too_long_after_mark [] long = absurd (omega arith)
too_long_after_mark (first ∷ []) long = absurd (omega arith)
too_long_after_mark (first ∷ second ∷ []) long = absurd (omega arith)
too_long_after_mark (first ∷ second ∷ third ∷ []) long = absurd (omega arith)
too_long_after_mark (first ∷ second ∷ third ∷ fourth ∷ field) long = refl

-- five bytes after the units
too_long_after_units : (field : List ℕ) → 5 ≤ length field → fraction field ≡ none
too_long_after_units [] long = absurd (omega arith)
too_long_after_units (byte ∷ field) long = none_after byte field (too_long_after_mark field (omega arith))

-- no more leading digits than asked for
few_leading : (most : ℕ) (field : List ℕ) → length (leading_digits most field) ≤ most
unfolding leading_digits
few_leading zero field = omega arith
few_leading (suc most) [] = omega arith
few_leading (suc most) (byte ∷ field) = by_first (is_digit byte) (few_leading most field)
  where
    by_first : (a_digit : Bool) → length (leading_digits most field) ≤ most → length (cond a_digit (byte ∷ leading_digits most field) []) ≤ suc most
    by_first true shorter = omega arith
    by_first false shorter = omega arith

-- eight bytes without a sign
too_long_unsigned : (field : List ℕ) → longest_number ≤ length field → unsigned field ≡ none
too_long_unsigned field long =
    let units : List ℕ = leading_digits 3 field in
    let no_fraction : fraction (drop (length units) field) ≡ none =
    too_long_after_units (drop (length units) field) (simp length-drop (omega (arith, few_leading 3 field))) in
    either_none (eqb (length units) 0) none _ refl (rw no_fraction refl)

-- nine bytes
pub too_long_number : (field : List ℕ) → longest_number < length field → reads_as field ≡ none
too_long_number [] long = absurd (omega arith)
too_long_number (byte ∷ field) long =
    either_none (eqb byte 45) _ _ (rw (too_long_unsigned field (omega arith)) refl) (rw (too_long_unsigned (byte ∷ field) (omega arith)) refl)
