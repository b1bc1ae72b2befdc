-- Laws of `bits_of` and `field_at`: eight bits a byte, one byte after another; the bits say which bytes they are, and a field's number which bits it has.
use mathlib.Core.Path.{◌≡◌, refl, sym, ap, ap₂, ◌∙◌}
use mathlib.Core.List.{List, [], ◌∷◌, ◌++◌, append_assoc}
use Prim.Native.Nat.{ℕ, zero, suc, ◌+◌, ◌*◌, ◌^◌, ◌<◌}
use native.Mathlib.Omega.{arith}
use lib.ListN.{length, take, drop, length-append}
use lib.Seq.{take-nil, drop-nil, take_at, drop_at, take-append-add, drop-append-add}
use Rattle.bits.specs.Bits.{bits, bits_of, number_of, field_at}
use Rattle.bits.specs.Inner.{Below}
use Rattle.bits.proofs.Numbers.{nil_below, append_below, tail_below, drop_below}
use Rattle.bits.proofs.Fields.{length_bits, bits_below, number_of_bits, field_number_below}

pub length_bits_of : (bytes : List ℕ) → length (bits_of bytes) ≡ 8 * length bytes
unfolding bits_of
length_bits_of [] = refl
length_bits_of (byte ∷ bytes) =
    let both : length (bits 8 byte ++ bits_of bytes) ≡ length (bits 8 byte) + length (bits_of bytes) = length-append (bits 8 byte) (bits_of bytes) in
    omega (arith, length_bits 8 byte, length_bits_of bytes)

pub bits_of_below : (bytes : List ℕ) → Below 2 (bits_of bytes)
unfolding bits_of
bits_of_below [] = nil_below (omega arith)
bits_of_below (byte ∷ bytes) = append_below (bits 8 byte) (bits_of bytes) (bits_below 8 byte) (bits_of_below bytes)

pub field_below : (bytes : List ℕ) (place width : ℕ) → field_at bytes place width < 2 ^ width
field_below bytes place width = field_number_below width (drop place (bits_of bytes)) (drop_below place (bits_of bytes) (bits_of_below bytes))

pub bits_of_append : (front back : List ℕ) → bits_of (front ++ back) ≡ bits_of front ++ bits_of back
unfolding bits_of
bits_of_append [] back = refl
bits_of_append (byte ∷ bytes) back =
    ap (λ (more : List ℕ). bits 8 byte ++ more) (bits_of_append bytes back)
    ∙ sym (append_assoc (bits 8 byte) (bits_of bytes) (bits_of back))

-- a count of bytes in bits, one byte taken off
eight_more : (byte count : ℕ) → 8 * suc count ≡ length (bits 8 byte) + 8 * count
eight_more byte count = omega (arith, length_bits 8 byte)

pub bits_of_take : (count : ℕ) (bytes : List ℕ) → bits_of (take count bytes) ≡ take (8 * count) (bits_of bytes)
unfolding bits_of
bits_of_take zero bytes = refl
bits_of_take (suc count) [] = sym (take-nil (8 * suc count))
bits_of_take (suc count) (byte ∷ bytes) =
    ap (λ (more : List ℕ). bits 8 byte ++ more) (bits_of_take count bytes)
    ∙ sym (take-append-add (bits 8 byte) (bits_of bytes) (8 * count))
    ∙ ap (λ (n : ℕ). take n (bits 8 byte ++ bits_of bytes)) (sym (eight_more byte count))

pub bits_of_drop : (count : ℕ) (bytes : List ℕ) → bits_of (drop count bytes) ≡ drop (8 * count) (bits_of bytes)
unfolding bits_of
bits_of_drop zero bytes = refl
bits_of_drop (suc count) [] = sym (drop-nil (8 * suc count))
bits_of_drop (suc count) (byte ∷ bytes) =
    bits_of_drop count bytes
    ∙ sym (drop-append-add (bits 8 byte) (bits_of bytes) (8 * count))
    ∙ ap (λ (n : ℕ). drop n (bits 8 byte ++ bits_of bytes)) (sym (eight_more byte count))

-- bytes of equal bits are equal
pub bytes_from_bits : (these those : List ℕ) → Below 256 these → Below 256 those → bits_of these ≡ bits_of those → these ≡ those
unfolding bits_of
bytes_from_bits [] [] below-these below-those same = refl
bytes_from_bits [] (byte ∷ bytes) below-these below-those same =
    absurd (omega (arith, ap length same, length_bits_of (byte ∷ bytes)))
bytes_from_bits (byte ∷ bytes) [] below-these below-those same =
    absurd (omega (arith, ap length same, length_bits_of (byte ∷ bytes)))
bytes_from_bits (this ∷ these) (that ∷ those) below-these below-those same =
    let first : bits 8 this ≡ bits 8 that =
    sym (take_at (bits 8 this) (bits_of these) 8 (length_bits 8 this)) ∙ ap (λ (l : List ℕ). take 8 l) same ∙ take_at (bits 8 that) (bits_of those) 8 (length_bits 8 that) in
    let more : bits_of these ≡ bits_of those =
    sym (drop_at (bits 8 this) (bits_of these) 8 (length_bits 8 this)) ∙ ap (λ (l : List ℕ). drop 8 l) same ∙ drop_at (bits 8 that) (bits_of those) 8 (length_bits 8 that) in
    let byte : this ≡ that = sym (number_of_bits 8 this (below-these.each 0)) ∙ ap number_of first ∙ number_of_bits 8 that (below-those.each 0) in
    ap₂ (λ (b : ℕ) (l : List ℕ). b ∷ l) byte (bytes_from_bits these those (tail_below this these below-these) (tail_below that those below-those) more)

-- the number of a field is the one whose bits stand there
pub field_of_laid : (bytes front rest : List ℕ) (place width number : ℕ) → length front ≡ place → number < 2 ^ width → bits_of bytes ≡ front ++ (bits width number ++ rest)
    → field_at bytes place width ≡ number
field_of_laid bytes front rest place width number at_place fits laid =
    ap (λ (l : List ℕ). number_of (take width (drop place l))) laid
    ∙ ap (λ (l : List ℕ). number_of (take width l)) (drop_at front (bits width number ++ rest) place at_place)
    ∙ ap number_of (take_at (bits width number) rest width (length_bits width number))
    ∙ number_of_bits width number fits
