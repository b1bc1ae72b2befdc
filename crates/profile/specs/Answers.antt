-- The answers of reading a profile text. For the auditor.
use Rattle.std.specs.Prelude.{◌≡◌, ◌||◌, List, [], ℕ, ltb, ℤ, pos, length, Result}
use Rattle.limits.specs.Answers.{◌when◌, ◌then◌, granted, laid}
use Rattle.refusals.specs.Answers.{refused_with, answered}
use Rattle.refusals.specs.declared.Refusal.{Refusal}
use Rattle.bands.specs.Bands.{slot_numbers_of, own_bands_of}
use Rattle.profile.specs.declared.TextNumbers.{TextNumbers}
use Rattle.profile.specs.Text.{text_refusal, rest_of, band_of, setpoints_of, bands_of, specials_of}

-- a refusal comes "with 0 for all other results"
abbrev pub no_numbers : TextNumbers
no_numbers = record { rest = pos 0; band = pos 0; slots = 0; specials = 0 }

-- the numbers of a text by the refusal returned with them
pub record NumbersOf (text : List ℕ) (answer : Result TextNumbers Refusal) : Type 0 where
  pub rest_is : (answered no_numbers answer).rest ≡ granted (refused_with answer) (rest_of text) (pos 0)
  pub band_is : (answered no_numbers answer).band ≡ granted (refused_with answer) (band_of text) (pos 0)
  pub slots_is : (answered no_numbers answer).slots ≡ granted (refused_with answer) (length (setpoints_of text)) 0
  pub specials_is : (answered no_numbers answer).specials ≡ granted (refused_with answer) (length (specials_of text)) 0

-- a text read into room for 512 slots, for the calls that have no destination of the caller's; on a refusal the room holds the slots of the lines before it
pub record TextRead (text : List ℕ) (answer : Result TextNumbers Refusal) (setpoints setpoints' : List ℤ) (bands bands' : List ℕ) : Type 0 where
  pub refusal_is : refused_with answer ≡ text_refusal text
  pub numbers : NumbersOf text answer
  pub setpoints_are : setpoints' ≡ laid (setpoints_of text) setpoints
  pub bands_are : bands' ≡ laid (bands_of text) bands

-- "then 6 if the setpoints' destination is shorter than n"; F-6, "6 counts their destination too", the special slots'
abbrev pub profile_refusal : List ℕ → (places specialPlaces : ℕ) → ℕ
profile_refusal text places specialPlaces =
    text_refusal text then 6 when (ltb places (length (setpoints_of text)) || ltb specialPlaces (length (specials_of text)))

-- a text read into destinations of the caller's, equally long ones for the slots and the bands of special slots
pub record ProfileRead (text : List ℕ) (answer : Result TextNumbers Refusal) (destination destination' : List ℤ) (specials specials' own own' : List ℕ) : Type 0 where
  pub refusal_is : refused_with answer ≡ profile_refusal text (length destination) (length specials)
  pub numbers : NumbersOf text answer
  pub destination_is : destination' ≡ laid (granted (refused_with answer) (setpoints_of text) []) destination
  pub specials_are : specials' ≡ laid (granted (refused_with answer) (slot_numbers_of (specials_of text)) []) specials
  pub own_are : own' ≡ laid (granted (refused_with answer) (own_bands_of (specials_of text)) []) own
