-- Reading and writing by bytes. The three bytes from `first` on are a word of 24 bits; what precedes and what follows it is untouched, so a field of
-- the bytes is a field of the word. Bytes past the end are zeros that are put there to read and cut off after writing.
use mathlib.Core.Path.{◌≡◌, refl, sym, ap, ap₂, ◌∙◌}
use mathlib.Core.List.{List, [], ◌∷◌, ◌++◌, append_assoc, append-nil}
use Prim.Native.Nat.{ℕ, zero, suc, ◌+◌, ◌-◌, ◌*◌, ◌/◌, ◌%◌, ◌^◌, ◌<◌, ◌≤◌}
use native.Mathlib.Nat.{add_assoc, mod-lt}
use native.Mathlib.Omega.{arith}
use native.Mathlib.Numerals.{add-one}
use lib.ListN.{length, get_or, take, drop, set, length-append, length-drop, take-append-drop}
use lib.Seq.{drop-cons, take_at, take-append-le, drop-append-le, drop_at, drop-append-add, sets, sets-eq, length-take-le}
use lib.Pow.{pow_pos}
use Rattle.bits.specs.Bits.{bits, bits_of, number_of, field_at, replaced_at}
use Rattle.bits.specs.Inner.{Below, word_at, word_bytes, with_field}
use Rattle.bits.proofs.Fields.{length_bits, bits_split, bits_of_joined, bits_of_remainder, field_of_bits, number_of_last_bits}
use Rattle.bits.proofs.Bytes.{length_bits_of, bits_of_append, bits_of_take}
use Rattle.bits.proofs.Replacing.{length_replaced, replaced_in_front, replaced_behind}

-- the bits of a word of three bytes
bits_of_three : (a b c : ℕ) → b < 256 → c < 256 → bits 24 (a * 65536 + b * 256 + c) ≡ bits_of (a ∷ b ∷ c ∷ [])
unfolding bits_of
bits_of_three a b c small_b small-c =
    let regroup : a * 65536 + b * 256 + c ≡ a * 2 ^ 16 + (b * 2 ^ 8 + c) = omega arith in
    ap (λ (n : ℕ). bits 24 n) regroup
    ∙ bits_of_joined 8 16 a (b * 2 ^ 8 + c) (omega arith)
    ∙ ap (λ (l : List ℕ). bits 8 a ++ l) (bits_of_joined 8 8 b c small-c)
    ∙ ap (λ (l : List ℕ). bits 8 a ++ (bits 8 b ++ l)) (sym (append-nil (bits 8 c)))

pub word_below : (bytes : List ℕ) (i : ℕ) → Below 256 bytes → word_at bytes i < 2 ^ 24
word_below bytes i below = omega (arith, below.each i, below.each (i + 1), below.each (i + 2))

-- a word's bytes have its bits
bits_of_word : (word : ℕ) → bits_of (word_bytes word) ≡ bits 24 word
bits_of_word word =
    let joined : word / 65536 % 256 * 65536 + word / 256 % 256 * 256 + word % 256 ≡ word % 2 ^ 24 = omega arith in
    sym (bits_of_three (word / 65536 % 256) (word / 256 % 256) (word % 256) (omega arith) (omega arith))
    ∙ ap (λ (n : ℕ). bits 24 n) joined
    ∙ bits_of_remainder 24 word

-- the field of a word that `after` bits follow, replaced
with_field_bits : (before width after word number : ℕ) → number < 2 ^ width
    → bits (before + (width + after)) (with_field word width after number) ≡ replaced_at before (bits width number) (bits (before + (width + after)) word)
with_field_bits before width after word number small =
    let high : ℕ = word / 2 ^ after / 2 ^ width in
    let front : List ℕ = bits before high in
    let middle : List ℕ = bits width (word / 2 ^ after) in
    let field : List ℕ = bits width number in
    let back : List ℕ = bits after word in
    let regroup : before + (width + after) ≡ before + width + after = sym (add_assoc before width after) in
    let old : bits (before + (width + after)) word ≡ (front ++ middle) ++ back =
    ap (λ (n : ℕ). bits n word) regroup
    ∙ bits_split (before + width) after word
    ∙ ap (λ (l : List ℕ). l ++ back) (bits_split before width (word / 2 ^ after)) in
    let new : bits (before + (width + after)) (with_field word width after number) ≡ (front ++ field) ++ back =
    ap (λ (n : ℕ). bits n (with_field word width after number)) regroup
    ∙ bits_of_joined (before + width) after (high * 2 ^ width + number) (word % 2 ^ after) (mod-lt word (pow_pos after))
    ∙ ap₂ (λ (l m : List ℕ). l ++ m) (bits_of_joined before width high number small) (bits_of_remainder after word) in
    let kept : take before ((front ++ middle) ++ back) ≡ front =
    ap (λ (l : List ℕ). take before l) (append_assoc front middle back)
    ∙ take_at front (middle ++ back) before (length_bits before high) in
    let length_both : length (front ++ middle) ≡ before + length field =
    length-append front middle
    ∙ ap₂ (λ (n m : ℕ). n + m) (length_bits before high) (length_bits width (word / 2 ^ after) ∙ sym (length_bits width number)) in
    let left : drop (before + length field) ((front ++ middle) ++ back) ≡ back = drop_at (front ++ middle) back (before + length field) length_both in
    new ∙ append_assoc front field back
    ∙ ap₂ (λ (l m : List ℕ). l ++ (field ++ m)) (sym kept) (sym left)
    ∙ ap (λ (l : List ℕ). replaced_at before field l) (sym old)

abbrev padded : List ℕ → List ℕ
padded bytes = bytes ++ (0 ∷ 0 ∷ 0 ∷ [])

get_d_padded : (bytes : List ℕ) (i : ℕ) → get_or (padded bytes) i 0 ≡ get_or bytes i 0
get_d_padded [] zero = refl
get_d_padded [] (suc zero) = refl
get_d_padded [] (suc (suc zero)) = refl
get_d_padded [] (suc (suc (suc i))) = refl
get_d_padded (byte ∷ bytes) zero = refl
get_d_padded (byte ∷ bytes) (suc i) = get_d_padded bytes i

-- a store past the end leaves the list, so stores and cutting off go in either order
take_set : (count : ℕ) (l : List ℕ) (i byte : ℕ) → take count (set l i byte) ≡ set (take count l) i byte
take_set zero l i byte = refl
take_set (suc count) [] i byte = refl
take_set (suc count) (first ∷ l) zero byte = refl
take_set (suc count) (first ∷ l) (suc i) byte = ap (λ (m : List ℕ). first ∷ m) (take_set count l i byte)

take_sets : (count : ℕ) (l : List ℕ) (i : ℕ) (values : List ℕ) → take count (sets l i values) ≡ sets (take count l) i values
take_sets count l i [] = refl
take_sets count l i (byte ∷ values) =
    take_sets count (set l i byte) (suc i) values ∙ ap (λ (m : List ℕ). sets m (suc i) values) (take_set count l i byte)

module _ (bytes : List ℕ) (first : ℕ) (inside : first ≤ length bytes) where
  before_word : List ℕ
  before_word = bits_of (take first (padded bytes))

  behind_word : List ℕ
  behind_word = bits_of (drop (first + 3) (padded bytes))

  long_enough : first + 3 ≤ length (padded bytes)
  long_enough = omega (arith, length-append bytes (0 ∷ 0 ∷ 0 ∷ []))

  length_before_word : length before_word ≡ 8 * first
  unfolding before_word
  length_before_word = length_bits_of (take first (padded bytes)) ∙ ap (λ (n : ℕ). 8 * n) (length-take-le first (padded bytes) (omega (arith, long_enough)))

  around : (values : List ℕ) → bits_of (take first (padded bytes) ++ (values ++ drop (first + 3) (padded bytes))) ≡ before_word ++ (bits_of values ++ behind_word)
  unfolding before_word behind_word
  around values =
      bits_of_append (take first (padded bytes)) (values ++ drop (first + 3) (padded bytes))
      ∙ ap (λ (l : List ℕ). bits_of (take first (padded bytes)) ++ l) (bits_of_append values (drop (first + 3) (padded bytes)))

  one_byte : (i next : ℕ) → i + 1 ≡ next → i < length (padded bytes) → drop i (padded bytes) ≡ get_or bytes i 0 ∷ drop next (padded bytes)
  one_byte i next follows within =
      drop-cons (padded bytes) i 0 within
      ∙ ap₂ (λ (byte n : ℕ). byte ∷ drop n (padded bytes)) (get_d_padded bytes i) (sym (add-one i) ∙ follows)

  three : padded bytes ≡ take first (padded bytes) ++ ((get_or bytes first 0 ∷ get_or bytes (first + 1) 0 ∷ get_or bytes (first + 2) 0 ∷ []) ++ drop (first + 3) (padded bytes))
  three =
      let room = long_enough in
      sym (take-append-drop first (padded bytes))
      ∙ ap (λ (l : List ℕ). take first (padded bytes) ++ l)
      (one_byte first (first + 1) refl (omega arith)
      ∙ ap (λ (l : List ℕ). get_or bytes first 0 ∷ l)
      (one_byte (first + 1) (first + 2) (omega arith) (omega arith)
      ∙ ap (λ (l : List ℕ). get_or bytes (first + 1) 0 ∷ l) (one_byte (first + 2) (first + 3) (omega arith) (omega arith))))

  -- the bytes' bits around the word
  around_word : Below 256 bytes → bits_of (padded bytes) ≡ before_word ++ (bits 24 (word_at bytes first) ++ behind_word)
  around_word below =
      ap bits_of three
      ∙ around (get_or bytes first 0 ∷ get_or bytes (first + 1) 0 ∷ get_or bytes (first + 2) 0 ∷ [])
      ∙ ap (λ (l : List ℕ). before_word ++ (l ++ behind_word))
      (sym (bits_of_three (get_or bytes first 0) (get_or bytes (first + 1) 0) (get_or bytes (first + 2) 0) (below.each (first + 1)) (below.each (first + 2))))

  around_stored : (word : ℕ) → bits_of (sets (padded bytes) first (word_bytes word)) ≡ before_word ++ (bits 24 word ++ behind_word)
  around_stored word =
      ap bits_of (sets-eq (word_bytes word) (padded bytes) first long_enough ∙ append_assoc (take first (padded bytes)) (word_bytes word) (drop (first + 3) (padded bytes)))
      ∙ around (word_bytes word)
      ∙ ap (λ (l : List ℕ). before_word ++ (l ++ behind_word)) (bits_of_word word)

-- a field of `width` bits in the word from byte `first` on, with `shift` bits before it and `after` bits behind it
module _ (bytes : List ℕ) (first shift width after : ℕ) (below : Below 256 bytes) (all : shift + (width + after) ≡ 24) (inside : 8 * first + shift + width ≤ 8 * length bytes) where
  first_inside : first ≤ length bytes
  first_inside = omega arith

  inside_bits : 8 * first + shift + width ≤ length (bits_of bytes)
  inside_bits = rw (length_bits_of bytes) inside

  padded_bits : bits_of (padded bytes) ≡ bits_of bytes ++ bits_of (0 ∷ 0 ∷ 0 ∷ [])
  padded_bits = bits_of_append bytes (0 ∷ 0 ∷ 0 ∷ [])

  parted : bits_of (padded bytes) ≡ before_word bytes first first_inside ++ (bits 24 (word_at bytes first) ++ behind_word bytes first first_inside)
  parted = around_word bytes first first_inside below

  place_is : 8 * first + shift ≡ length (before_word bytes first first_inside) + shift
  place_is = ap (λ (n : ℕ). n + shift) (sym (length_before_word bytes first first_inside))

  fits_word : shift + width ≤ length (bits 24 (word_at bytes first))
  fits_word = rw (length_bits 24 (word_at bytes first)) (omega arith)

  -- the bits from the field on, cut to its width, do not reach what was put behind the bytes
  taken_padded : take width (drop (8 * first + shift) (bits_of (padded bytes))) ≡ take width (drop (8 * first + shift) (bits_of bytes))
  taken_padded =
      let fits = inside_bits in
      ap (λ (l : List ℕ). take width (drop (8 * first + shift) l)) padded_bits
      ∙ ap (λ (l : List ℕ). take width l) (drop-append-le (8 * first + shift) (bits_of bytes) (bits_of (0 ∷ 0 ∷ 0 ∷ [])) (omega arith))
      ∙ take-append-le width (drop (8 * first + shift) (bits_of bytes)) (bits_of (0 ∷ 0 ∷ 0 ∷ [])) (omega (arith, length-drop (8 * first + shift) (bits_of bytes)))

  -- nor what stands before and behind the word
  taken_word : take width (drop (8 * first + shift) (bits_of (padded bytes))) ≡ take width (drop shift (bits 24 (word_at bytes first)))
  taken_word =
      let fits = fits_word in
      let word = bits 24 (word_at bytes first) in
      let front = before_word bytes first first_inside in
      let back = behind_word bytes first first_inside in
      ap₂ (λ (n : ℕ) (l : List ℕ). take width (drop n l)) place_is parted
      ∙ ap (λ (l : List ℕ). take width l) (drop-append-add front (word ++ back) shift ∙ drop-append-le shift word back (omega arith))
      ∙ take-append-le width (drop shift word) back (omega (arith, length-drop shift word))

  pub field_of_word : word_at bytes first / 2 ^ after % 2 ^ width ≡ field_at bytes (8 * first + shift) width
  field_of_word =
      sym (number_of_last_bits width (word_at bytes first / 2 ^ after))
      ∙ ap number_of (sym (field_of_bits shift width after (word_at bytes first)))
      ∙ ap (λ (n : ℕ). number_of (take width (drop shift (bits n (word_at bytes first))))) all
      ∙ ap number_of (sym taken_word ∙ taken_padded)

  module _ (number : ℕ) (small : number < 2 ^ width) where
    replaced_word : bits 24 (with_field (word_at bytes first) width after number) ≡ replaced_at shift (bits width number) (bits 24 (word_at bytes first))
    replaced_word =
        ap (λ (n : ℕ). bits n (with_field (word_at bytes first) width after number)) (sym all)
        ∙ with_field_bits shift width after (word_at bytes first) number small
        ∙ ap (λ (n : ℕ). replaced_at shift (bits width number) (bits n (word_at bytes first))) all

    -- in the padded bytes the word is whole
    stored_padded : bits_of (sets (padded bytes) first (word_bytes (with_field (word_at bytes first) width after number))) ≡ replaced_at (8 * first + shift) (bits width number) (bits_of (padded bytes))
    stored_padded =
        let word = bits 24 (word_at bytes first) in
        let front = before_word bytes first first_inside in
        let back = behind_word bytes first first_inside in
        let field = bits width number in
        around_stored bytes first first_inside (with_field (word_at bytes first) width after number)
        ∙ ap (λ (l : List ℕ). front ++ (l ++ back)) replaced_word
        ∙ ap (λ (l : List ℕ). front ++ l) (sym (replaced_in_front shift field word back (rw (length_bits width number) fits_word)))
        ∙ sym (replaced_behind shift field front (word ++ back))
        ∙ ap₂ (λ (n : ℕ) (l : List ℕ). replaced_at n field l) (sym place_is) (sym parted)

    pub stored_field : bits_of (sets bytes first (word_bytes (with_field (word_at bytes first) width after number))) ≡ replaced_at (8 * first + shift) (bits width number) (bits_of bytes)
    stored_field =
        let field = bits width number in
        let values = word_bytes (with_field (word_at bytes first) width after number) in
        let zeros = bits_of (0 ∷ 0 ∷ 0 ∷ []) in
        let fits : 8 * first + shift + length field ≤ length (bits_of bytes) = rw (length_bits width number) inside_bits in
        let cut : sets bytes first values ≡ take (length bytes) (sets (padded bytes) first values) =
        ap (λ (l : List ℕ). sets l first values) (sym (take_at bytes (0 ∷ 0 ∷ 0 ∷ []) (length bytes) refl)) ∙ sym (take_sets (length bytes) (padded bytes) first values) in
        ap bits_of cut
        ∙ bits_of_take (length bytes) (sets (padded bytes) first values)
        ∙ ap (λ (l : List ℕ). take (8 * length bytes) l) (stored_padded ∙ ap (λ (l : List ℕ). replaced_at (8 * first + shift) field l) padded_bits ∙ replaced_in_front (8 * first + shift) field (bits_of bytes) zeros fits)
        ∙ take_at (replaced_at (8 * first + shift) field (bits_of bytes)) zeros (8 * length bytes) (length_replaced (8 * first + shift) field (bits_of bytes) fits ∙ length_bits_of bytes)

-- the same by a place: the word starts at the byte that the place lies in
module _ (bytes : List ℕ) (place width : ℕ) (below : Below 256 bytes) (narrow : width ≤ 16) (inside : place + width ≤ 8 * length bytes) where
  place_parted : 8 * (place / 8) + place % 8 ≡ place
  place_parted = omega arith

  pub read_by_word : word_at bytes (place / 8) / 2 ^ (24 - place % 8 - width) % 2 ^ width ≡ field_at bytes place width
  read_by_word =
      field_of_word bytes (place / 8) (place % 8) width (24 - place % 8 - width) below (omega arith) (omega arith)
      ∙ ap (λ (n : ℕ). field_at bytes n width) place_parted

  pub written_by_word : (number : ℕ) → number < 2 ^ width
      → bits_of (sets bytes (place / 8) (word_bytes (with_field (word_at bytes (place / 8)) width (24 - place % 8 - width) number))) ≡ replaced_at place (bits width number) (bits_of bytes)
  written_by_word number small =
      stored_field bytes (place / 8) (place % 8) width (24 - place % 8 - width) below (omega arith) (omega arith) number small
      ∙ ap (λ (n : ℕ). replaced_at n (bits width number) (bits_of bytes)) place_parted
