-- Document 01's starred instances, those of document 02's F-2 with its fault after a point, that of its F-3 with two more, two for its F-5, four for its F-6, those of its F-7 and ten for its F-8, as one table. For the auditor. `proofs/Hold.antt` proves that every one holds.
use Rattle.std.specs.Prelude.{◌≡◌, List, [], ◌∷◌, ◌++◌, ℕ, ℤ, pos, negsuc, length}
use Rattle.std.proofs.Math.Option.{some}
use Rattle.limits.specs.Answers.{◌when◌}
use Rattle.decimal.specs.Number.{reads_as}
use Rattle.decimal.specs.Answers.{is_none}
use Rattle.bands.specs.declared.SpecialSlot.{SpecialSlot}
use Rattle.bands.specs.Bands.{slot_bands}
use Rattle.histogram.specs.declared.Term.{Term}
use Rattle.histogram.specs.Errors.{greatest_error}
use Rattle.claims.specs.First.{first_synopsis}
use Rattle.claims.specs.LeastBand.{LeastBand}
use Rattle.laws.specs.Profiles.{moved, turned}
use Rattle.air.specs.Flows.{flow_of}

pub data Instance : Type 0 where
  -- a field and the value in hundredths that it gives
  gives : (field : List ℕ) (value : ℤ) → Instance
  -- a field and the number it is refused with
  refused : (field : List ℕ) (number : ℕ) → Instance
  -- a profile, its rest value, the common band and the special slots, and the number of terms and the greatest error of the synopsis that building gives
  builds : (profile : List ℤ) (rest : ℤ) (band : ℕ) (specials : List SpecialSlot) (count error : ℕ) → Instance
  -- a profile, its rest value, the common band and the special slots, and that synopsis
  has_first : (profile : List ℤ) (rest : ℤ) (band : ℕ) (specials : List SpecialSlot) (terms : List Term) → Instance
  -- a profile, its rest value and a budget of terms, and the least band for it
  least_band : (profile : List ℤ) (rest : ℤ) (budget band : ℕ) → Instance
  -- a step of the air duct and its flow
  has_flow : (step flow : ℕ) → Instance

-- a list of so many terms, with such a greatest error
pub record CountAndError (profile : List ℤ) (rest : ℤ) (count error : ℕ) (terms : List Term) : Type 0 where
  pub count_is : length terms ≡ count
  pub error_is : greatest_error profile rest terms ≡ error

-- what an instance says of the definitions
abbrev pub Holds : Instance → Type 0
Holds (gives field value) = reads_as field ≡ some value
Holds (refused field number) = 1 when is_none (reads_as field) ≡ number
Holds (builds profile rest band specials count error) = CountAndError profile rest count error (first_synopsis profile rest (slot_bands (length profile) band specials))
Holds (has_first profile rest band specials terms) = first_synopsis profile rest (slot_bands (length profile) band specials) ≡ terms
Holds (least_band profile rest budget band) = LeastBand profile rest budget band
Holds (has_flow step flow) = flow_of step ≡ flow

-- what every instance of a list says
abbrev pub AllHold : List Instance → Type 0
AllHold [] = Unit {0}
AllHold (one ∷ others) = Holds one × AllHold others

-- one slot of setpoint 5, and one of setpoint 9
abbrev pub five : List ℤ
five = pos 5 ∷ []

abbrev pub nine : List ℤ
nine = pos 9 ∷ []

-- four slots of setpoints 0, 100, 0 and 100
abbrev pub hundreds : List ℤ
hundreds = pos 0 ∷ pos 100 ∷ pos 0 ∷ pos 100 ∷ []

-- six slots, all of setpoint 0 but for the last, which has 100
abbrev pub last_hundred : List ℤ
last_hundred = pos 0 ∷ pos 0 ∷ pos 0 ∷ pos 0 ∷ pos 0 ∷ pos 100 ∷ []

-- three slots of setpoint 100
abbrev pub three_hundreds : List ℤ
three_hundreds = pos 100 ∷ pos 100 ∷ pos 100 ∷ []

-- four slots: -20, -10, 10 and 10
abbrev pub four_rising : List ℤ
four_rising = negsuc 19 ∷ negsuc 9 ∷ pos 10 ∷ pos 10 ∷ []

-- four slots: 100, 116, 3 and 3
abbrev pub four_falling : List ℤ
four_falling = pos 100 ∷ pos 116 ∷ pos 3 ∷ pos 3 ∷ []

-- two slots: 0 and 1, and 0 and 9
abbrev pub zero_and_one : List ℤ
zero_and_one = pos 0 ∷ pos 1 ∷ []

abbrev pub zero_and_nine : List ℤ
zero_and_nine = pos 0 ∷ pos 9 ∷ []

-- two slots: 2 and 0
abbrev pub two_and_zero : List ℤ
two_and_zero = pos 2 ∷ pos 0 ∷ []

-- two slots at the lower limit: -20,000 and -19,995
abbrev pub at_the_limit : List ℤ
at_the_limit = negsuc 19999 ∷ negsuc 19994 ∷ []

-- a special slot, by its slot and its own band
abbrev pub own : ℕ → ℕ → SpecialSlot
own slot band = record { slot = slot; band = band }

-- the table: each row's instances under its words
abbrev pub starred : List Instance
starred =
    -- the fields `14,50`, `14,5`, `14`, `-0,05` and `14,`
    gives (49 ∷ 52 ∷ 44 ∷ 53 ∷ 48 ∷ []) (pos 1450)
    ∷ gives (49 ∷ 52 ∷ 44 ∷ 53 ∷ []) (pos 1450)
    ∷ gives (49 ∷ 52 ∷ []) (pos 1400)
    ∷ gives (45 ∷ 48 ∷ 44 ∷ 48 ∷ 53 ∷ []) (negsuc 4)
    ∷ refused (49 ∷ 52 ∷ 44 ∷ []) 1
    -- F-2: the fields `14,505`, `-0,005`, `999,995` and `14.505`
    ∷ gives (49 ∷ 52 ∷ 44 ∷ 53 ∷ 48 ∷ 53 ∷ []) (pos 1451)
    ∷ gives (45 ∷ 48 ∷ 44 ∷ 48 ∷ 48 ∷ 53 ∷ []) (negsuc 0)
    ∷ gives (57 ∷ 57 ∷ 57 ∷ 44 ∷ 57 ∷ 57 ∷ 53 ∷ []) (pos 100000)
    ∷ refused (49 ∷ 52 ∷ 46 ∷ 53 ∷ 48 ∷ 53 ∷ []) 1
    -- "one slot 5, rest 0, band 5 / 4": "0 terms, error 5 / 1 term, error 0"
    ∷ builds five (pos 0) 5 [] 0 5
    ∷ builds five (pos 0) 4 [] 1 0
    -- "0, 100, 0, 100, rest 0, band 50 / 49": "1 term, error 50 / 2 terms, error 0"
    ∷ builds hundreds (pos 0) 50 [] 1 50
    ∷ builds hundreds (pos 0) 49 [] 2 0
    -- "that profile, budget 0 / 1 / 2": "100 / 50 / 0"
    ∷ least_band hundreds (pos 0) 0 100
    ∷ least_band hundreds (pos 0) 1 50
    ∷ least_band hundreds (pos 0) 2 0
    -- F-3: "0, 0, 0, 0, 0, 100 with rest 0 and band 0 drops from two terms to one", which is the term (13, 100)
    ∷ builds last_hundred (pos 0) 0 [] 1 0
    ∷ has_first last_hundred (pos 0) 0 [] (record { node = 13; value = pos 100 } ∷ [])
    -- with band 60 too one term, and error 0: slots 6 and 7 have none; with a setpoint of 100 in them it would be 50
    ∷ builds last_hundred (pos 0) 60 [] 1 0
    -- filler accepts every value, and not the rest value alone: one term at the root serves three slots of 100
    ∷ builds three_hundreds (pos 0) 0 [] 1 0
    ∷ has_first three_hundreds (pos 0) 0 [] (record { node = 1; value = pos 100 } ∷ [])
    -- F-5: slots 0 and 1 need -15, and slots 2 and 3 any value of 5 to 15. "Lower node first": a term at node 1 comes before one at node 2.
    -- "Then lower value": there -15 comes before 5, and at node 3 the lowest of the eleven
    ∷ has_first four_rising (pos 100) 5 [] (record { node = 1; value = negsuc 14 } ∷ record { node = 3; value = pos 5 } ∷ [])
    -- slots 2 and 3 take any value of -5 to 11: -5 is the lowest, though 0 and 3 are smaller in size
    ∷ has_first four_falling (pos 1000) 8 [] (record { node = 1; value = negsuc 4 } ∷ record { node = 2; value = pos 108 } ∷ [])
    -- F-6: the bands 1 and 0 of two slots. The term (1, 1) comes before (3, 1), which has the same least margin, 0, and the smaller error
    ∷ builds zero_and_one (pos 0) 1 (own 1 0 ∷ []) 1 1
    ∷ has_first zero_and_one (pos 0) 1 (own 1 0 ∷ []) (record { node = 1; value = pos 1 } ∷ [])
    -- the bands 10 and 2: of the values 7 to 10 the lowest with the greatest least margin, 1, is 8. The least greatest error is that of 7, the greatest margin of slot 1 alone that of 9
    ∷ builds zero_and_nine (pos 1000) 10 (own 1 2 ∷ []) 1 8
    ∷ has_first zero_and_nine (pos 1000) 10 (own 1 2 ∷ []) (record { node = 1; value = pos 8 } ∷ [])
    -- F-7: "1 gives 50, 2 gives 70, 400 gives 1,000"
    ∷ has_flow 1 50
    ∷ has_flow 2 70
    ∷ has_flow 400 1000
    -- F-8: one slot 5 and one slot 9 need one term each by themselves. Two slots 5 joined need one fewer than the two together, 5 and 9 joined as many
    ∷ builds five (pos 0) 0 [] 1 0
    ∷ builds nine (pos 0) 0 [] 1 0
    ∷ builds (five ++ five) (pos 0) 0 [] 1 0
    ∷ builds (five ++ nine) (pos 0) 0 [] 2 0
    -- the bands 1 and 2 of two slots: all signs turned, neither the term nor the greatest error is as it was
    ∷ builds two_and_zero (pos 7) 1 (own 1 2 ∷ []) 1 1
    ∷ has_first two_and_zero (pos 7) 1 (own 1 2 ∷ []) (record { node = 1; value = pos 1 } ∷ [])
    ∷ builds (turned two_and_zero) (negsuc 6) 1 (own 1 2 ∷ []) 1 2
    ∷ has_first (turned two_and_zero) (negsuc 6) 1 (own 1 2 ∷ []) (record { node = 1; value = negsuc 1 } ∷ [])
    -- two slots at the lower limit: moved by 2, the term is as it was and not moved by 2
    ∷ has_first at_the_limit (negsuc 19992) 6 [] (record { node = 2; value = negsuc 19999 } ∷ [])
    ∷ has_first (moved (pos 2) at_the_limit) (negsuc 19990) 6 [] (record { node = 2; value = negsuc 19999 } ∷ [])
    ∷ []
