-- Bit fields, most significant bit first: document 01, "The record". For the auditor. The width is a parameter everywhere.
-- Shown beside the definitions in `proofs/`: `number_of_bits`, `bits_of_number`, `bytes_from_bits`, `bits_of_packed`.
use Rattle.std.specs.Prelude.{List, [], ◌∷◌, ◌++◌, ℕ, zero, suc, ◌+◌, ◌*◌, ◌/◌, ◌%◌, ◌^◌, length, take, drop, replicate}

-- the last `width` bits of a number, most significant first
unfoldable pub bits : ℕ → ℕ → List ℕ
bits zero number = []
bits (suc width) number = number / 2 ^ width % 2 ∷ bits width number

-- the number that bits write, most significant first
unfoldable pub number_of : List ℕ → ℕ
number_of [] = 0
number_of (bit ∷ more) = bit * 2 ^ length more + number_of more

-- the bits of bytes: "a bit number, counted from the first byte's top bit", is a place in this list
unfoldable pub bits_of : List ℕ → List ℕ
bits_of [] = []
bits_of (byte ∷ bytes) = bits 8 byte ++ bits_of bytes

-- the number in the field of `width` bits at a place
abbrev pub field_at : List ℕ → ℕ → ℕ → ℕ
field_at bytes place width = number_of (take width (drop place (bits_of bytes)))

-- bits with others put in their place from some place on
abbrev pub replaced_at : ℕ → List ℕ → List ℕ → List ℕ
replaced_at place field before = take place before ++ (field ++ drop (place + length field) before)

-- `count` bytes of bits, "zeros to the end of the byte"
unfoldable pub packed : ℕ → List ℕ → List ℕ
packed zero field = []
packed (suc count) field = number_of (take 8 (field ++ replicate 8 0)) ∷ packed count (drop 8 field)
