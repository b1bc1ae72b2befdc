-- What inner functions promise. A reader of the promises need not open this file.
use Rattle.std.specs.Prelude.{◌≡◌, ℕ, ◌+◌, ◌*◌, ◌<◌, ◌≤◌, Bool, true, false, ◌||◌, List, ◌++◌, length, take, ◌==◌, ◌≢◌, slice_index}
use Rattle.std.proofs.Math.Option.{Option, none, some}
use Rattle.decimal.specs.Number.{is_digit, is_mark, most_digits, leading_digits, decimal, fraction, added}

-- whether numbers are written with a byte
abbrev pub in_number : ℕ → Bool
in_number byte = is_digit byte || is_mark byte || byte == 45

-- the number that some bytes begin with, and how many bytes it takes; a count beyond the bytes says that there is none. A part in front that ends before a byte of no number, or with the bytes, is that number or no number at all
pub record FrontRead {A : Type 0} (meant : List ℕ → Option A) (bytes : List ℕ) (number : A) (count : ℕ) : Type 0 where
  pub in_reach : count ≤ length bytes + 1
  pub whole : count ≤ length bytes → meant (take count bytes) ≡ some number
  pub unbroken : count ≤ length bytes → (place : ℕ) → place < count → in_number (slice_index bytes place) ≡ true
  pub no_other : (place : ℕ) → place ≤ length bytes → in_number (slice_index bytes place) ≡ false → (place ≢ count) → meant (take place bytes) ≡ none

-- the same without a sign
pub record PartRead (meant : List ℕ → Option ℕ) (bytes : List ℕ) (number count : ℕ) : Type 0 where
  pub front : FrontRead meant bytes number count
  pub at_most : number ≤ 100000

-- the first digits of a field, three at the most: how many, and the number they write
pub record UnitsRead (field : List ℕ) (count units : ℕ) : Type 0 where
  pub count_is : count ≡ length (leading_digits 3 field)
  pub units_is : units ≡ decimal 0 (leading_digits 3 field)
  pub in_field : count ≤ length field
  pub below_thousand : units ≤ 999

-- what follows units, together with them
abbrev pub with_units : ℕ → List ℕ → Option ℕ
with_units units field = added (100 * units) (fraction field)

-- bytes that begin with a mark, and how many digits may follow it
pub record Marked (bytes : List ℕ) (most : ℕ) : Type 0 where
  pub at_mark : is_mark (slice_index bytes 0) ≡ true
  pub most_is : most ≡ most_digits (slice_index bytes 0)

-- the three bytes after a mark, each 0 where none is
pub record DigitsRead (bytes : List ℕ) (tenths hundredths thousandths : ℕ) : Type 0 where
  pub first : tenths ≡ slice_index bytes 1
  pub second : hundredths ≡ slice_index bytes 2
  pub third : thousandths ≡ slice_index bytes 3

-- the bytes of a text of `count` bytes that stands at the front of an array
abbrev pub held : List ℕ → ℕ → List ℕ
held bytes count = take count bytes

-- a text that grew by some bytes
pub record Grown (bytes : List ℕ) (count : ℕ) (added : List ℕ) (bytes' : List ℕ) (count' : ℕ) : Type 0 where
  pub count_is : count' ≡ count + length added
  pub text_is : held bytes' count' ≡ held bytes count ++ added
