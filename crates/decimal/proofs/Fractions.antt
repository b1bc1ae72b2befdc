-- Where a fraction at the front of some bytes ends: at once where no mark stands, after one digit, two or three; a mark without a digit is none.
-- Every other place is either one of the fraction's own bytes or too far.
use Rattle.std.proofs.Common.{◌≡◌, ℕ, zero, suc, ◌+◌, ◌-◌, ◌*◌, ◌<◌, ◌≤◌, Bool, true, false, cond, ◌&&◌, ◌||◌, eqb, ltb, leb, List, [], ◌∷◌, length, get_or, take, refl, arith, length-take-le, ltb-false, ltb-true, le-leb}
use mathlib.Core.Bool.{and-false}
use mathlib.Core.Option.{none, some}
use borrow.Author.Tests.{lt-leb}
use Rattle.decimal.specs.Number.{is_digit, digit, is_mark, most_digits, rounded, hundredths, fraction}
use Rattle.decimal.specs.Inner.{in_number, FrontRead}
use Rattle.decimal.proofs.Fronts.{no_byte, digit_in, mark_in, not_both}
use Rattle.decimal.proofs.ShortNumbers.{either_none, none_after}

-- whether a third digit stands after a mark that allows it
abbrev pub has_third : List ℕ → Bool
has_third bytes = eqb (get_or bytes 0 0) 44 && is_digit (get_or bytes 3 0)

-- every mark allows two digits
two_allowed : (mark digits : ℕ) → digits ≤ 2 → leb digits (most_digits mark) ≡ true
two_allowed mark digits few = by_mark (eqb mark 44)
  where
    by_mark : (comma : Bool) → leb digits (cond comma 3 2) ≡ true
    by_mark true = le-leb digits 3 (omega arith)
    by_mark false = le-leb digits 2 few

-- what follows a mark, where it begins with no digit, with no second or no third one, or goes on after three
first_no_digit : (first : ℕ) (field : List ℕ) → is_digit first ≡ false → hundredths (first ∷ field) ≡ none
first_no_digit first [] not_digit = rw not_digit
first_no_digit first (second ∷ []) not_digit = rw not_digit
first_no_digit first (second ∷ third ∷ []) not_digit = rw not_digit
first_no_digit first (second ∷ third ∷ fourth ∷ field) not_digit = refl

second_no_digit : (first : ℕ) (field : List ℕ) (place : ℕ) → is_digit (get_or field 0 0) ≡ false → suc place ≤ length field → hundredths (first ∷ take (suc place) field) ≡ none
second_no_digit first [] place not_digit inside = absurd (omega arith)
second_no_digit first (second ∷ field) zero not_digit inside = rw (not_digit, and-false (is_digit first))
second_no_digit first (second ∷ []) (suc place) not_digit inside = absurd (omega arith)
second_no_digit first (second ∷ third ∷ field) (suc zero) not_digit inside = rw (not_digit, and-false (is_digit first))
second_no_digit first (second ∷ third ∷ []) (suc (suc place)) not_digit inside = absurd (omega arith)
second_no_digit first (second ∷ third ∷ fourth ∷ field) (suc (suc place)) not_digit inside = refl

third_no_digit : (first second : ℕ) (field : List ℕ) (place : ℕ) → is_digit (get_or field 0 0) ≡ false → suc place ≤ length field → hundredths (first ∷ second ∷ take (suc place) field) ≡ none
third_no_digit first second [] place not_digit inside = absurd (omega arith)
third_no_digit first second (third ∷ field) zero not_digit inside = rw (not_digit, and-false (is_digit first && is_digit second))
third_no_digit first second (third ∷ []) (suc place) not_digit inside = absurd (omega arith)
third_no_digit first second (third ∷ fourth ∷ field) (suc place) not_digit inside = refl

fourth_byte : (first second third : ℕ) (field : List ℕ) (place : ℕ) → suc place ≤ length field → hundredths (first ∷ second ∷ third ∷ take (suc place) field) ≡ none
fourth_byte first second third [] place inside = absurd (omega arith)
fourth_byte first second third (fourth ∷ field) place inside = refl

-- a third byte, where no third digit counts: it is no digit, or the mark allows no more than two
third_too_far : (mark first second : ℕ) (field : List ℕ) (place : ℕ) → (eqb mark 44 && is_digit (get_or field 0 0)) ≡ false → suc place ≤ length field
    → fraction (mark ∷ first ∷ second ∷ take (suc place) field) ≡ none
third_too_far mark first second field place not_third inside = by_mark (eqb mark 44) not_third
  where
    by_mark : (comma : Bool) → (comma && is_digit (get_or field 0 0)) ≡ false
        → cond ((comma || eqb mark 46) && leb (length (first ∷ second ∷ take (suc place) field)) (cond comma 3 2)) (hundredths (first ∷ second ∷ take (suc place) field)) none ≡ none
    by_mark true not_digit = either_none (leb (length (first ∷ second ∷ take (suc place) field)) 3) (hundredths (first ∷ second ∷ take (suc place) field)) none (third_no_digit first second field place not_digit inside) refl
    by_mark false any =
        let three = length-take-le (suc place) field inside in
        rw (lt-leb (length (first ∷ second ∷ take (suc place) field)) 2 (omega arith), and-false (eqb mark 46))

pub no_mark : (bytes : List ℕ) → is_mark (get_or bytes 0 0) ≡ false → FrontRead fraction bytes 0 0
no_mark bytes not-marked = record {
  in_reach = omega arith;
  whole = λ inside. refl;
  unbroken = λ inside place before. absurd (omega arith);
  no_other = λ place inside stops. elsewhere bytes place not-marked inside;
}
  where
    elsewhere : (bytes : List ℕ) (place : ℕ) → is_mark (get_or bytes 0 0) ≡ false → place ≤ length bytes → (place ≡ 0 → ⊥) → fraction (take place bytes) ≡ none
    elsewhere bytes zero not-marked inside other = absurd (other refl)
    elsewhere [] (suc place) not-marked inside other = absurd (omega arith)
    elsewhere (byte ∷ bytes) (suc place) not-marked inside other = rw not-marked

pub mark_alone : (bytes : List ℕ) (place : ℕ) → is_mark (get_or bytes 0 0) ≡ true → is_digit (get_or bytes 1 0) ≡ false → place ≤ length bytes → in_number (get_or bytes place 0) ≡ false
    → fraction (take place bytes) ≡ none
mark_alone bytes zero marked not_digit inside stops = absurd (not_both (get_or bytes 0 0) (mark_in (get_or bytes 0 0) marked) stops)
mark_alone [] (suc place) marked not_digit inside stops = absurd (omega arith)
mark_alone (mark ∷ bytes) (suc zero) marked not_digit inside stops = none_after mark [] refl
mark_alone (mark ∷ []) (suc (suc place)) marked not_digit inside stops = absurd (omega arith)
mark_alone (mark ∷ first ∷ bytes) (suc (suc place)) marked not_digit inside stops = none_after mark (first ∷ take place bytes) (first_no_digit first (take place bytes) not_digit)

-- the first bytes are all bytes of a number
AllIn : List ℕ → ℕ → Type 0
AllIn bytes count = (place : ℕ) → place < count → in_number (get_or bytes place 0) ≡ true

mark_first : (bytes : List ℕ) → is_mark (get_or bytes 0 0) ≡ true → AllIn bytes 1
unfolding AllIn
mark_first bytes marked zero before = mark_in (get_or bytes 0 0) marked
mark_first bytes marked (suc place) before = absurd (omega arith)

digit_next : (bytes : List ℕ) (count : ℕ) → AllIn bytes count → is_digit (get_or bytes count 0) ≡ true → AllIn bytes (suc count)
unfolding AllIn
digit_next bytes count all_in a_digit place before = by_order (ltb place count) refl
  where
    by_order : (earlier : Bool) → ltb place count ≡ earlier → in_number (get_or bytes place 0) ≡ true
    by_order true is = all_in place (ltb-true place count is)
    by_order false is = let last : place ≡ count = omega (arith, ltb-false place count is) in rw last (digit_in (get_or bytes count 0) a_digit)

-- a fraction of `count` bytes, where any more bytes make it none
ends_at : (bytes : List ℕ) (count part : ℕ) → fraction (take count bytes) ≡ some part → AllIn bytes count
    → ((more : ℕ) → suc more + count ≤ length bytes → fraction (take (suc more + count) bytes) ≡ none) → count ≤ length bytes → FrontRead fraction bytes part count
unfolding AllIn
ends_at bytes count part is all_in too_far in_bytes = record {
  in_reach = omega arith;
  whole = λ inside. is;
  unbroken = λ inside. all_in;
  no_other = λ place inside stops other. by_order place (ltb place count) refl inside stops other;
}
  where
    by_order : (place : ℕ) (before : Bool) → ltb place count ≡ before → place ≤ length bytes → in_number (get_or bytes place 0) ≡ false → (place ≡ count → ⊥) → fraction (take place bytes) ≡ none
    by_order place true is-before inside stops other = absurd (not_both (get_or bytes place 0) (all_in place (ltb-true place count is-before)) stops)
    by_order place false is-after inside stops other =
        let behind : count < place = omega (arith, ltb-false place count is-after, other) in
        let longer : suc (place - suc count) + count ≡ place = omega arith in
        rw longer at (too_far (place - suc count) (omega arith))

pub one_digit : (bytes : List ℕ) → is_mark (get_or bytes 0 0) ≡ true → is_digit (get_or bytes 1 0) ≡ true → is_digit (get_or bytes 2 0) ≡ false
    → FrontRead fraction bytes (10 * digit (get_or bytes 1 0)) 2
one_digit [] marked one not_digit = absurd (no_byte one)
one_digit (mark ∷ []) marked one not_digit = absurd (no_byte one)
one_digit (mark ∷ first ∷ bytes) marked one not_digit =
    ends_at (mark ∷ first ∷ bytes) 2 (10 * digit first) (rw (marked, two_allowed mark 1 (omega arith), one)) (digit_next _ 1 (mark_first _ marked) one)
    (λ more inside. let far : suc more + 2 ≡ suc (suc (suc more)) = omega arith in rw far (none_after mark (first ∷ take (suc more) bytes) (second_no_digit first bytes more not_digit (omega arith))))
    (omega arith)

pub two_digits : (bytes : List ℕ) → is_mark (get_or bytes 0 0) ≡ true → is_digit (get_or bytes 1 0) ≡ true → is_digit (get_or bytes 2 0) ≡ true → has_third bytes ≡ false
    → FrontRead fraction bytes (10 * digit (get_or bytes 1 0) + digit (get_or bytes 2 0)) 3
two_digits [] marked one two not_third = absurd (no_byte one)
two_digits (mark ∷ []) marked one two not_third = absurd (no_byte one)
two_digits (mark ∷ first ∷ []) marked one two not_third = absurd (no_byte two)
two_digits (mark ∷ first ∷ second ∷ bytes) marked one two not_third =
    ends_at (mark ∷ first ∷ second ∷ bytes) 3 (10 * digit first + digit second) (rw (marked, two_allowed mark 2 (omega arith), one, two))
    (digit_next _ 2 (digit_next _ 1 (mark_first _ marked) one) two)
    (λ more inside. let far : suc more + 3 ≡ suc (suc (suc (suc more))) = omega arith in rw far (third_too_far mark first second bytes more not_third (omega arith))) (omega arith)

pub three_digits : (bytes : List ℕ) → eqb (get_or bytes 0 0) 44 ≡ true → is_digit (get_or bytes 1 0) ≡ true → is_digit (get_or bytes 2 0) ≡ true → is_digit (get_or bytes 3 0) ≡ true
    → FrontRead fraction bytes (rounded (100 * digit (get_or bytes 1 0) + 10 * digit (get_or bytes 2 0) + digit (get_or bytes 3 0))) 4
three_digits [] comma one two three = absurd (no_byte one)
three_digits (mark ∷ []) comma one two three = absurd (no_byte one)
three_digits (mark ∷ first ∷ []) comma one two three = absurd (no_byte two)
three_digits (mark ∷ first ∷ second ∷ []) comma one two three = absurd (no_byte three)
three_digits (mark ∷ first ∷ second ∷ third ∷ bytes) comma one two three =
    ends_at (mark ∷ first ∷ second ∷ third ∷ bytes) 4 (rounded (100 * digit first + 10 * digit second + digit third)) (rw (comma, one, two, three))
    (digit_next _ 3 (digit_next _ 2 (digit_next _ 1 (mark_first _ (rw comma)) one) two) three)
    (λ more inside.
    let far : suc more + 4 ≡ suc (suc (suc (suc (suc more)))) = omega arith in
    rw far (none_after mark (first ∷ second ∷ third ∷ take (suc more) bytes) (fourth_byte first second third bytes more (omega arith))))
    (omega arith)
