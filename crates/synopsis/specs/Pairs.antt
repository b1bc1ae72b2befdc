-- What inner functions promise of terms and of special slots alike: both are pairs of numbers. A reader of the promises need not open this file.
use Rattle.std.specs.Prelude.{◌≡◌, List, [], ◌∷◌, ℕ, ◌≤◌, length, take}

-- pairs made of two lists, as long as both have an element
abbrev pub zipped : {A B D : Type 0} → (A → B → D) → List A → List B → List D
zipped make [] seconds = []
zipped make (first ∷ firsts) [] = []
zipped make (first ∷ firsts) (second ∷ seconds) = make first second ∷ zipped make firsts seconds

-- a pair is its two numbers, and lists of pairs are put together from those of their numbers
pub record PairLaws {B D : Type 0} (make : ℕ → B → D) (first_of : D → ℕ) (second_of : D → B) (together : List ℕ → List B → List D) : Type 0 where
  pub made : (pair : D) → make (first_of pair) (second_of pair) ≡ pair
  pub together_is : (firsts : List ℕ) (seconds : List B) → together firsts seconds ≡ zipped make firsts seconds

-- the parts of a list of pairs, or of its first `most`, in the fronts of two lists
pub record PairsApart {B D : Type 0} (together : List ℕ → List B → List D) (pairs : List D) (most count : ℕ) (firsts : List ℕ) (seconds : List B) : Type 0 where
  pub of_firsts : count ≤ length firsts
  pub of_seconds : count ≤ length seconds
  pub together_are : together (take count firsts) (take count seconds) ≡ take most pairs
