-- Laws of `bits` and `number_of`, in any width: each undoes the other, and the number of an append is the first number shifted past the second.
use mathlib.Core.Path.{◌≡◌, refl, sym, ap, ap₂, ◌∙◌}
use mathlib.Core.List.{List, [], ◌∷◌, ◌++◌}
use Prim.Native.Nat.{ℕ, zero, suc, ◌+◌, ◌*◌, ◌/◌, ◌%◌, ◌^◌, ◌<◌, ◌≤◌}
use native.Mathlib.Nat.{zero-add, suc-add, add_comm, add-mul, mul_assoc, mod-one, mod-eq_of_lt, two-pow-succ}
use native.Mathlib.Numerals.{one-add}
use native.Mathlib.Omega.{arith}
use lib.ListN.{length, take, drop, length-append, length-take}
use lib.Seq.{take_at, drop_at}
use lib.Pow.{pow_mono, pow-add, shr-shr, mod-pow-add, mod-mod-pow, field, high, low}
use lib.Arith.{digits_lt}
use Rattle.bits.specs.Bits.{bits, number_of}
use Rattle.bits.specs.Inner.{Below}
use Rattle.bits.proofs.Numbers.{nil_below, cons_below, tail_below, take_below}

pub length_bits : (width number : ℕ) → length (bits width number) ≡ width
unfolding bits
length_bits zero number = refl
length_bits (suc width) number = ap suc (length_bits width number)

pub bits_below : (width number : ℕ) → Below 2 (bits width number)
unfolding bits
bits_below zero number = nil_below (omega arith)
bits_below (suc width) number = cons_below (number / 2 ^ width % 2) (bits width number) (omega arith) (bits_below width number)

-- the bits of a number are those of its high part and then its low ones
pub bits_split : (above below number : ℕ) → bits (above + below) number ≡ bits above (number / 2 ^ below) ++ bits below number
unfolding bits
bits_split zero below number = ap (λ (width : ℕ). bits width number) (zero-add below)
bits_split (suc above) below number =
    let shifted : number / 2 ^ (above + below) ≡ number / 2 ^ below / 2 ^ above = ap (λ (n : ℕ). number / 2 ^ n) (add_comm above below) ∙ sym (shr-shr number below above) in
    ap (λ (width : ℕ). bits width number) (suc-add above below)
    ∙ ap₂ (λ (bit : ℕ) (more : List ℕ). bit ∷ more) (ap (λ (n : ℕ). n % 2) shifted) (bits_split above below number)

-- only the last `width` bits count
pub bits_of_remainder : (width number : ℕ) → bits width (number % 2 ^ width) ≡ bits width number
unfolding bits
bits_of_remainder zero number = refl
bits_of_remainder (suc width) number =
    let bit : number % 2 ^ suc width / 2 ^ width % 2 ≡ number / 2 ^ width % 2 =
    ap (λ (n : ℕ). number % 2 ^ n / 2 ^ width % 2) (sym (one-add width)) ∙ ap (λ (n : ℕ). n % 2) (field number 1 width) ∙ mod-eq_of_lt (omega arith) in
    let more : bits width (number % 2 ^ suc width) ≡ bits width number =
    sym (bits_of_remainder width (number % 2 ^ suc width))
    ∙ ap (λ (n : ℕ). bits width (number % 2 ^ n % 2 ^ width)) (sym (one-add width))
    ∙ ap (λ (n : ℕ). bits width n) (mod-mod-pow number 1 width)
    ∙ bits_of_remainder width number in
    ap₂ (λ (b : ℕ) (l : List ℕ). b ∷ l) bit more

-- a number shifted past another: the bits of the one and then those of the other
pub bits_of_joined : (above below first second : ℕ) → second < 2 ^ below
    → bits (above + below) (first * 2 ^ below + second) ≡ bits above first ++ bits below second
bits_of_joined above below first second small =
    let lowest : bits below (first * 2 ^ below + second) ≡ bits below second = sym (bits_of_remainder below (first * 2 ^ below + second)) ∙ ap (λ (n : ℕ). bits below n) (low first below small) in
    bits_split above below (first * 2 ^ below + second)
    ∙ ap₂ (λ (n : ℕ) (l : List ℕ). bits above n ++ l) (high first below small) lowest

-- the field of `width` bits that `before` bits come before and `after` bits follow
pub field_of_bits : (before width after number : ℕ) → take width (drop before (bits (before + (width + after)) number)) ≡ bits width (number / 2 ^ after)
field_of_bits before width after number =
    ap (λ (l : List ℕ). take width (drop before l)) (bits_split before (width + after) number)
    ∙ ap (λ (l : List ℕ). take width l) (drop_at (bits before (number / 2 ^ (width + after))) (bits (width + after) number) before (length_bits before (number / 2 ^ (width + after))))
    ∙ ap (λ (l : List ℕ). take width l) (bits_split width after number)
    ∙ take_at (bits width (number / 2 ^ after)) (bits after number) width (length_bits width (number / 2 ^ after))

-- the number of the last `width` bits
pub number_of_last_bits : (width number : ℕ) → number_of (bits width number) ≡ number % 2 ^ width
unfolding bits number_of
number_of_last_bits zero number = sym (mod-one number)
number_of_last_bits (suc width) number =
    ap₂ (λ (n m : ℕ). number / 2 ^ width % 2 * 2 ^ n + m) (length_bits width number) (number_of_last_bits width number)
    ∙ sym (mod-pow-add number 1 width)
    ∙ ap (λ (n : ℕ). number % 2 ^ n) (one-add width)

pub number_of_bits : (width number : ℕ) → number < 2 ^ width → number_of (bits width number) ≡ number
number_of_bits width number small = number_of_last_bits width number ∙ mod-eq_of_lt small

pub number_of_append : (front back : List ℕ) → number_of (front ++ back) ≡ number_of front * 2 ^ length back + number_of back
unfolding number_of
number_of_append [] back = omega arith
number_of_append (bit ∷ more) back =
    let shifted : bit * 2 ^ length (more ++ back) ≡ bit * 2 ^ length more * 2 ^ length back =
    ap (λ (n : ℕ). bit * 2 ^ n) (length-append more back) ∙ ap (λ (n : ℕ). bit * n) (pow-add 2 (length more) (length back)) ∙ sym (mul_assoc bit (2 ^ length more) (2 ^ length back)) in
    let spread : (bit * 2 ^ length more + number_of more) * 2 ^ length back ≡ bit * 2 ^ length more * 2 ^ length back + number_of more * 2 ^ length back = add-mul (bit * 2 ^ length more) (number_of more) (2 ^ length back) in
    omega (arith, number_of_append more back)

pub number_below : (field : List ℕ) → Below 2 field → number_of field < 2 ^ length field
unfolding number_of
number_below [] below = omega arith
number_below (bit ∷ more) below =
    let doubled : 2 ^ length (bit ∷ more) ≡ 2 ^ length more + 2 ^ length more = two-pow-succ (length more) in
    let within : bit * 2 ^ length more + number_of more < 2 * 2 ^ length more = digits_lt (below.each 0) (number_below more (tail_below bit more below)) in
    omega arith

-- a field of at most `width` bits is below 2^width
pub field_number_below : (width : ℕ) (field : List ℕ) → Below 2 field → number_of (take width field) < 2 ^ width
field_number_below width field below =
    let short : length (take width field) ≤ width = omega (arith, length-take width field) in
    let power : 2 ^ length (take width field) ≤ 2 ^ width = pow_mono short in
    omega (arith, number_below (take width field) (take_below width field below))

pub bits_of_number : (field : List ℕ) → Below 2 field → bits (length field) (number_of field) ≡ field
unfolding bits number_of
bits_of_number [] below = refl
bits_of_number (bit ∷ more) below =
    let rest = tail_below bit more below in
    let small : number_of more < 2 ^ length more = number_below more rest in
    let first : (bit * 2 ^ length more + number_of more) / 2 ^ length more % 2 ≡ bit = ap (λ (n : ℕ). n % 2) (high bit (length more) small) ∙ mod-eq_of_lt (below.each 0) in
    let last : bits (length more) (bit * 2 ^ length more + number_of more) ≡ more =
    sym (bits_of_remainder (length more) (bit * 2 ^ length more + number_of more))
    ∙ ap (λ (n : ℕ). bits (length more) n) (low bit (length more) small)
    ∙ bits_of_number more rest in
    ap₂ (λ (b : ℕ) (l : List ℕ). b ∷ l) first last
