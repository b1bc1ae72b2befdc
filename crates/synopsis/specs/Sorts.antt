-- Terms and special slots as pairs. A reader of the promises need not open this file.
-- The laws stand here with their proofs, since an impl of the trait may cite nothing else of its crate.
use Rattle.std.specs.Prelude.{◌≡◌, List, [], ◌∷◌, ℕ, ℤ, refl}
use Rattle.std.proofs.Common.{ap}
use Rattle.bands.specs.Bands.{special_slots}
use Rattle.bands.specs.declared.SpecialSlot.{SpecialSlot}
use Rattle.histogram.specs.Terms.{paired}
use Rattle.histogram.specs.declared.Term.{Term}
use Rattle.synopsis.specs.Pairs.{zipped, PairLaws}

-- a term of its two numbers, and these
abbrev pub term_of : ℕ → ℤ → Term
term_of node value = record { node = node; value = value }

abbrev pub node_of : Term → ℕ
node_of term = term.node

abbrev pub value_of : Term → ℤ
value_of term = term.value

-- a special slot of its two numbers, and these
abbrev pub special_of : ℕ → ℕ → SpecialSlot
special_of slot band = record { slot = slot; band = band }

abbrev pub slot_of : SpecialSlot → ℕ
slot_of special = special.slot

abbrev pub band_of : SpecialSlot → ℕ
band_of special = special.band

-- terms and special slots that are lent as two lists are pairs made of these
paired_zipped : (nodes : List ℕ) (values : List ℤ) → paired nodes values ≡ zipped term_of nodes values
unfolding paired
paired_zipped [] values = refl
paired_zipped (node ∷ nodes) [] = refl
paired_zipped (node ∷ nodes) (value ∷ values) = ap (λ (l : List Term). term_of node value ∷ l) (paired_zipped nodes values)

specials_zipped : (slots bands : List ℕ) → special_slots slots bands ≡ zipped special_of slots bands
unfolding special_slots
specials_zipped [] bands = refl
specials_zipped (slot ∷ slots) [] = refl
specials_zipped (slot ∷ slots) (band ∷ bands) = ap (λ (l : List SpecialSlot). special_of slot band ∷ l) (specials_zipped slots bands)

pub term_laws : PairLaws term_of node_of value_of paired
term_laws = record { made = λ term. refl; together_is = paired_zipped }

pub special_laws : PairLaws special_of slot_of band_of special_slots
special_laws = record { made = λ special. refl; together_is = specials_zipped }
