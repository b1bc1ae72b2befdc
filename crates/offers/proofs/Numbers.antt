-- The test for the same number.
use mathlib.Core.Path.{◌≡◌, refl, sym, ap, ◌∙◌}
use mathlib.Core.Bool.{Bool, true, false}
use lib.Dec.{eqb}
use lib.IntN.{ℤ, pos, negsuc}
use borrow.Author.Tests.{eqb-true, eqb-false, eq-eqb}
use mir.Syntax.{Width}
use mir.Val.{SFits, of_z, to_z}
use mir.Facts.{to_z-of_z}
use Rattle.offers.specs.Offers.{same_number}

pub is_same : (a b : ℤ) → a ≡ b → same_number a b ≡ true
is_same a b same = rw same (itself b)
  where
    itself : (z : ℤ) → same_number z z ≡ true
    itself (pos n) = eq-eqb n n refl
    itself (negsuc n) = eq-eqb n n refl

pub same_is : (a b : ℤ) → same_number a b ≡ true → a ≡ b
same_is (pos m) (pos n) same = ap pos (eqb-true m n same)
same_is (pos m) (negsuc n) same = absurd (mathlib.Core.Bool.false≢true same)
same_is (negsuc m) (pos n) same = absurd (mathlib.Core.Bool.false≢true same)
same_is (negsuc m) (negsuc n) same = ap negsuc (eqb-true m n same)

is_other : (a b : ℤ) → (a ≡ b → ⊥) → same_number a b ≡ false
is_other a b differ = by_value (same_number a b) refl
  where
    by_value : (value : Bool) → same_number a b ≡ value → value ≡ false
    by_value true same = absurd (differ (same_is a b same))
    by_value false same = refl

-- two numbers of one width, as a function compares them
pub compared : {w : Width} {a b : ℤ} → SFits w a → SFits w b → eqb (of_z w a) (of_z w b) ≡ same_number a b
compared {w} {a} {b} f g = by_value (eqb (of_z w a) (of_z w b)) refl
  where
    by_value : (value : Bool) → eqb (of_z w a) (of_z w b) ≡ value → value ≡ same_number a b
    by_value true same = sym (is_same a b (sym (to_z-of_z f) ∙ ap (to_z w) (eqb-true (of_z w a) (of_z w b) same) ∙ to_z-of_z g))
    by_value false same = sym (is_other a b (λ (equal : a ≡ b). eqb-false (of_z w a) (of_z w b) same (ap (of_z w) equal)))
