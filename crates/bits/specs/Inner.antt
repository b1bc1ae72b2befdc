-- What reading and writing a field ask, and what the calls inside pass on. A reader of the promises need not open this file.
use Rattle.std.specs.Prelude.{List, [], ◌∷◌, ℕ, ◌+◌, ◌*◌, ◌/◌, ◌%◌, ◌^◌, ◌≤◌, ◌<◌, ℤ, length, get_or}
use Rattle.std.specs.Int.Signed.{mag}

-- a field of at most 16 bits that lies within the bytes
pub record Within (bytes : List ℕ) (place width : ℕ) : Type 0 where
  pub narrow : width ≤ 16
  pub inside : place + width ≤ 8 * length bytes

-- the same, and a number that fits it
pub record Fitting (bytes : List ℕ) (place width number : ℕ) : Type 0 where
  pub within : Within bytes place width
  pub fits : number < 2 ^ width

-- a signed number of `width` bits: `mag` of n and of -(n + 1) is n
pub record SignedBits (width : ℕ) (number : ℤ) : Type 0 where
  pub some : 1 ≤ width
  pub small : 2 * mag number < 2 ^ width

pub record FittingSigned (bytes : List ℕ) (place width : ℕ) (number : ℤ) : Type 0 where
  pub within : Within bytes place width
  pub fits : SignedBits width number

-- every number of a list is below a limit, and so is the 0 past its end: bits are below 2, bytes below 256
pub record Below (limit : ℕ) (numbers : List ℕ) : Type 0 where
  pub each : (k : ℕ) → get_or numbers k 0 < limit

-- three bytes from an index on as one number of 24 bits; a byte past the end is 0
abbrev pub word_at : List ℕ → ℕ → ℕ
word_at bytes i = get_or bytes i 0 * 65536 + get_or bytes (i + 1) 0 * 256 + get_or bytes (i + 2) 0

-- the three bytes of a number of 24 bits
abbrev pub word_bytes : ℕ → List ℕ
word_bytes word = word / 65536 % 256 ∷ word / 256 % 256 ∷ word % 256 ∷ []

-- a number with another in its field of `width` bits that `after` bits follow
abbrev pub with_field : ℕ → ℕ → ℕ → ℕ → ℕ
with_field word width after number = (word / 2 ^ after / 2 ^ width * 2 ^ width + number) * 2 ^ after + word % 2 ^ after

-- what `with_field` asks: the field lies within 24 bits
pub record FieldInWord (word width after number : ℕ) : Type 0 where
  pub word_fits : word < 2 ^ 24
  pub field_fits : width + after ≤ 24
  pub number_fits : number < 2 ^ width
