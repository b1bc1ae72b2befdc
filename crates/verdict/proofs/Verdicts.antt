-- The greatest of numbers that agree, and that the slot reported where a synopsis is not kept is one that counts.
use mathlib.Core.Path.{◌≡◌, refl, sym, ap₂, ◌∙◌}
use mathlib.Core.Bool.{false, false≢true}
use mathlib.Core.Logic.{⊎_elim}
use mathlib.Core.List.{List}
use Prim.Native.Nat.{ℕ, zero, suc, ◌≤◌, ◌<◌, max}
use native.Mathlib.Omega.{arith}
use lib.Dec.{ltb}
use lib.IntN.{ℤ}
use borrow.Author.Tests.{ltb-false}
use Rattle.limits.proofs.Lowest.{lowest_first}
use Rattle.histogram.specs.declared.Term.{Term}
use Rattle.histogram.specs.Errors.{slots_of, slot_error, slot_band, greatest, kept}
use Rattle.histogram.proofs.Order.{below_or_not}
use Rattle.histogram.proofs.Kept.{keeps_kept}
use Rattle.verdict.specs.Verdict.{lowest_beyond}

-- numbers that agree below `count` have the same greatest
pub greatest_same : (one other : ℕ → ℕ) (count : ℕ) → ((k : ℕ) → k < count → one k ≡ other k) → greatest one count ≡ greatest other count
unfolding greatest
greatest_same one other zero same = refl
greatest_same one other (suc count) same = ap₂ max (greatest_same one other count (λ k below. same k (omega arith))) (same count (omega arith))

-- the lowest slot beyond its band of a synopsis that is not kept is a slot that counts
pub lowest_counts : (profile : List ℤ) (rest : ℤ) (terms : List Term) (bands : List ℕ) → kept profile rest terms bands ≡ false → lowest_beyond profile rest terms bands < slots_of profile
lowest_counts profile rest terms bands not_kept =
    ⊎_elim
    (λ counts. counts)
    (λ past.
    let within : (slot : ℕ) → slot < slots_of profile → slot_error profile rest terms slot ≤ slot_band bands slot =
    λ slot below. ltb-false (slot_band bands slot) (slot_error profile rest terms slot) (lowest_first (λ place. ltb (slot_band bands place) (slot_error profile rest terms place)) (slots_of profile) slot (omega arith)) in
    absurd (false≢true (sym not_kept ∙ keeps_kept profile rest terms bands (record { every_slot = within }))))
    (below_or_not (lowest_beyond profile rest terms bands) (slots_of profile))
