-- The bytes that numbers are written with, and the answers where there is no byte or bytes begin with no number.
use Rattle.std.proofs.Common.{◌≡◌, ℕ, ◌+◌, ◌≤◌, true, false, ◌||◌, eqb, List, length, get_or, take, refl, arith}
use mathlib.Core.Bool.{or-true}
use mathlib.Core.Option.{Option, none}
use Rattle.decimal.specs.Number.{is_digit, is_mark}
use Rattle.decimal.specs.Inner.{in_number, FrontRead}

pub digit_in : (byte : ℕ) → is_digit byte ≡ true → in_number byte ≡ true
digit_in byte a_digit = rw a_digit

pub mark_in : (byte : ℕ) → is_mark byte ≡ true → in_number byte ≡ true
mark_in byte a-mark = rw (a-mark, or-true (is_digit byte))

pub minus_in : (byte : ℕ) → eqb byte 45 ≡ true → in_number byte ≡ true
minus_in byte a-minus = rw (a-minus, or-true (is_digit byte || is_mark byte))

-- a byte of a number is not one of another kind
pub not_both : (byte : ℕ) → in_number byte ≡ true → in_number byte ≡ false → ⊥
not_both byte is-in is-out = let broken : ◌≡◌ {A = ℕ} 0 1 = cc in omega arith

-- where there is no byte, there is no digit
pub no_byte : is_digit 0 ≡ true → ⊥
no_byte a_digit = not_both 0 (digit_in 0 a_digit) refl

pub none_in_front : {A : Type 0} {meant : List ℕ → Option A} (bytes : List ℕ) (number : A)
    → ((place : ℕ) → place ≤ length bytes → in_number (get_or bytes place 0) ≡ false → meant (take place bytes) ≡ none) → FrontRead meant bytes number (length bytes + 1)
none_in_front bytes number nothing = record {
  in_reach = omega arith;
  whole = λ inside. absurd (omega arith);
  unbroken = λ inside place before. absurd (omega arith);
  no_other = λ place inside stops other. nothing place inside stops;
}
