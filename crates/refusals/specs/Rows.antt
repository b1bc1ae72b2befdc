-- The rows of document 01's "What the panel turns away" and of document 02's. For the auditor.
use Rattle.std.specs.Prelude.{ℕ}
use Rattle.refusals.specs.declared.Refusal.{Refusal}
use Rattle.refusals.specs.declared.Refusal.TheVariants.{NotANumber, ValueBeyond, BandBeyond, SlotsBeyond, BudgetBeyond, OutputShort, NotARecord, TermsWrong, LengthDiffers, NoSuchSlot, SpecialsWrong, HasSpecials, AirBeyond}

-- the number of a refusal's row
abbrev pub row : Refusal → ℕ
row NotANumber = 1
row ValueBeyond = 2
row BandBeyond = 3
row SlotsBeyond = 4
row BudgetBeyond = 5
row OutputShort = 6
row NotARecord = 7
row TermsWrong = 8
row LengthDiffers = 9
row NoSuchSlot = 10
row SpecialsWrong = 11
row HasSpecials = 12
row AirBeyond = 13
