-- What follows of a refusal's number, whichever refusal it is: it counts before what comes later, and with it nothing is granted.
use Rattle.std.proofs.Common.{◌≡◌, ℕ, ◌<◌, refl, arith}
use Rattle.limits.specs.Answers.{◌then◌, granted}
use Rattle.limits.proofs.Refusals.{first_counts, granted_nothing}
use Rattle.refusals.specs.declared.Refusal.{Refusal}
use Rattle.refusals.specs.declared.Refusal.TheVariants.{NotANumber, ValueBeyond, BandBeyond, SlotsBeyond, BudgetBeyond, OutputShort, NotARecord, TermsWrong, LengthDiffers, NoSuchSlot, SpecialsWrong, HasSpecials, AirBeyond}
use Rattle.refusals.specs.Rows.{row}

pub row_counts : (refusal : Refusal) → 0 < row refusal
row_counts NotANumber = omega arith
row_counts ValueBeyond = omega arith
row_counts BandBeyond = omega arith
row_counts SlotsBeyond = omega arith
row_counts BudgetBeyond = omega arith
row_counts OutputShort = omega arith
row_counts NotARecord = omega arith
row_counts TermsWrong = omega arith
row_counts LengthDiffers = omega arith
row_counts NoSuchSlot = omega arith
row_counts SpecialsWrong = omega arith
row_counts HasSpecials = omega arith
row_counts AirBeyond = omega arith

pub row_first : (refusal : Refusal) (later : ℕ) → row refusal then later ≡ row refusal
row_first refusal later = first_counts (row refusal) later (row_counts refusal)

pub row_nothing {ℓ} : {A : Type ℓ} (refusal : Refusal) (result nothing : A) → granted (row refusal) result nothing ≡ nothing
row_nothing refusal result nothing = granted_nothing (row refusal) result nothing (row_counts refusal)
