-- `decimal::read::read_front` meets its contract: a minus turns the sign of what follows it, and takes a byte.
use Rattle.std.proofs.Common.{◌≡◌, ℕ, zero, suc, ◌+◌, ◌^◌, ◌<◌, ◌≤◌, true, false, eqb, List, [], ◌∷◌, length, get_or, take, drop, pos, refl, ap, ◌∙◌, add-one, arith, rules, to_z-of_z, w32}
use mathlib.Core.Option.{none}
use mir.Val.{hbits}
use mir.ValLaws.{to_z_pos}
use Rattle.limits.proofs.Parts.{to_end}
use Rattle.limits.proofs.Signed.{negative_is, negative_fits}
use Rattle.decimal.specs.Number.{leading_digits, unsigned, signed, negated, reads_as}
use Rattle.decimal.specs.Inner.{in_number, FrontRead}
use Rattle.decimal.proofs.Fronts.{minus_in, not_both}
use Rattle.decimal.proofs.read.read_front.Goals as goal
use Rattle.decimal.proofs.read.read_front.Goals.{then-bytes-lt1, else-bytes-lt1+in_default-1}

-- 31 bits have room for a number that is read
has_room : {number : ℕ} → number ≤ 100000 → number < 2 ^ hbits w32
has_room small = omega arith

after_minus : (bytes : List ℕ) (number count : ℕ) → eqb (get_or bytes 0 0) 45 ≡ true → FrontRead unsigned (drop 1 bytes) number count → FrontRead reads_as bytes (negated number) (count + 1)
after_minus [] number count a-minus front = absurd (not_both 0 (minus_in 0 a-minus) refl)
after_minus (byte ∷ bytes) number count a-minus front = rw (add-one count) (record {
  in_reach = omega (arith, front.in_reach);
  whole = λ inside. rw a-minus (ap (signed negated) (front.whole (omega arith)));
  unbroken = all_in;
  no_other = elsewhere;
})
  where
    all_in : suc count ≤ length (byte ∷ bytes) → (place : ℕ) → place < suc count → in_number (get_or (byte ∷ bytes) place 0) ≡ true
    all_in inside zero before = minus_in byte a-minus
    all_in inside (suc place) before = front.unbroken (omega arith) place (omega arith)

    elsewhere : (place : ℕ) → place ≤ length (byte ∷ bytes) → in_number (get_or (byte ∷ bytes) place 0) ≡ false → (place ≡ suc count → ⊥) → reads_as (take place (byte ∷ bytes)) ≡ none
    elsewhere zero inside stops other = absurd (not_both byte (minus_in byte a-minus) stops)
    elsewhere (suc place) inside stops other = rw a-minus (ap (signed negated) (front.no_other place (omega arith) stops (λ same. other (ap suc same))))

-- the same bytes, where they begin with no minus
plain_means : (bytes : List ℕ) (place : ℕ) → eqb (get_or bytes 0 0) 45 ≡ false → reads_as (take place bytes) ≡ signed pos (unsigned (take place bytes))
unfolding leading_digits
plain_means bytes zero not-minus = refl
plain_means [] (suc place) not-minus = refl
plain_means (byte ∷ bytes) (suc place) not-minus = rw not-minus

no_minus : (bytes : List ℕ) (number count : ℕ) → eqb (get_or bytes 0 0) 45 ≡ false → FrontRead unsigned bytes number count → FrontRead reads_as bytes (pos number) count
no_minus bytes number count not-minus front = record {
  in_reach = front.in_reach;
  whole = λ inside. plain_means bytes count not-minus ∙ ap (signed pos) (front.whole inside);
  unbroken = front.unbroken;
  no_other = λ place inside stops other. plain_means bytes place not-minus ∙ ap (signed pos) (front.no_other place inside stops other);
}

no_byte_no_minus : (bytes : List ℕ) → length bytes < 1 → eqb (get_or bytes 0 0) 45 ≡ false
no_byte_no_minus [] none_there = refl
no_byte_no_minus (byte ∷ bytes) none_there = absurd (omega arith)

pub returns-in-45 : goal.returns-in-45
returns-in-45 c =
    let bytes = c.args.bytes.now in
    let part = c.read_unsigned-part in
    let number = part.result.number in
    let room = has_room part.ensures.at_most in
    let a-minus : eqb (get_or bytes 0 0) 45 ≡ true = search rules in
    let read = rw (to_end 1 bytes) at part.ensures in
    rw (to_z-of_z (negative_fits w32 number room), negative_is w32 number room)
    (after_minus bytes number _ a-minus read.front)

pub returns : goal.returns
returns c =
    let part = c.read_unsigned-part-2 in
    let not-minus : eqb (get_or c.args.bytes.now 0 0) 45 ≡ false =
    elim c.if-bytes-lt1.branch [ then-bytes-lt1 w ↦ search (rules, no_byte_no_minus) | else-bytes-lt1+in_default-1 w ↦ search rules ] in
    rw (to_z_pos w32 part.result.number (has_room part.ensures.at_most))
    (no_minus c.args.bytes.now _ _ not-minus part.ensures.front)
