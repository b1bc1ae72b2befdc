-- A successful call of building, for laws of what building answers. For the auditor.
-- Document 02's F-8 of such calls: `joined_counts`, `moved_answers`, `turned_answers` (proofs/Answers.antt).
use Rattle.std.specs.Prelude.{◌≡◌, List, ℕ, ℤ, nat_abs, length, Ok}
use Rattle.bands.specs.declared.SpecialSlot.{SpecialSlot}
use Rattle.bands.specs.Bands.{slot_bands}
use Rattle.histogram.specs.declared.Term.{Term}
use Rattle.build.specs.declared.BuiltSynopsis.{BuiltSynopsis}
use Rattle.build.specs.Building.{Built}

-- building was called with some common band and special slots, which give the slots these bands, and with lent memory of some length, and refused nothing
pub record Answered (profile : List ℤ) (rest : ℤ) (bands : List ℕ) (answer : BuiltSynopsis) (terms : List Term) : Type 0 where
  pub band : ℤ
  pub specials : List SpecialSlot
  pub places : ℕ
  pub numbers : ℕ
  pub built : Built profile rest band specials places numbers (Ok answer) terms
  pub bands_are : slot_bands (length profile) (nat_abs band) specials ≡ bands
