-- Margins: a least margin is at least a number exactly where every slot's is, and with one band for all slots it is the band less the greatest error.
use mathlib.Core.Path.{◌≡◌, refl, ap, ap₂, ◌∙◌}
use mathlib.Core.List.{List}
use mathlib.Core.Logic.{⊎_elim}
use Prim.Native.Nat.{ℕ, zero, suc, ◌+◌, ◌-◌, ◌≤◌, ◌<◌, min}
use native.Mathlib.Omega.{arith}
use lib.IntN.{ℤ}
use Rattle.histogram.specs.declared.Term.{Term}
use Rattle.histogram.specs.Errors.{slots_of, slot_error, slot_band, greatest, greatest_error, slot_margin, least, least_margin, Keeps}
use Rattle.histogram.proofs.Expected.{greatest_bound, each_within}
use Rattle.std.proofs.lemmas.Bool.{cases_lt}

pub least_within : (f : ℕ → ℕ) (count k : ℕ) → k < count → least f count ≤ f k
unfolding least
least_within f zero k below = absurd (omega arith)
least_within f (suc zero) k below = let first : k ≡ 0 = omega arith in omega (arith, ap f first)
least_within f (suc (suc count)) k below =
    ⊎_elim
    (λ before. omega (arith, least_within f (suc count) k before))
    (λ from. let last : k ≡ suc count = omega arith in omega (arith, ap f last))
    (cases_lt k (suc count))

pub least_bound : (f : ℕ → ℕ) (count bound : ℕ) → 1 ≤ count → ((k : ℕ) → k < count → bound ≤ f k) → bound ≤ least f count
unfolding least
least_bound f zero bound some each = absurd (omega arith)
least_bound f (suc zero) bound some each = each 0 (omega arith)
least_bound f (suc (suc count)) bound some each =
    omega (arith, least_bound f (suc count) bound (omega arith) (λ k below. each k (omega arith)), each (suc count) (omega arith))

-- the least of no smaller numbers is no smaller
pub least_grows : (f g : ℕ → ℕ) (count : ℕ) → ((k : ℕ) → k < count → f k ≤ g k) → least f count ≤ least g count
unfolding least
least_grows f g zero each = omega arith
least_grows f g (suc count) each =
    least_bound g (suc count) (least f (suc count)) (omega arith) (λ k below. omega (arith, least_within f (suc count) k below, each k below))

-- numbers that agree below `count` have the same least
pub least_same : (one other : ℕ → ℕ) (count : ℕ) → ((k : ℕ) → k < count → one k ≡ other k) → least one count ≡ least other count
unfolding least
least_same one other zero same = refl
least_same one other (suc zero) same = same 0 (omega arith)
least_same one other (suc (suc count)) same =
    ap₂ min (least_same one other (suc count) (λ k below. same k (omega arith))) (same (suc count) (omega arith))

-- the least of what is left of a number is what the greatest leaves of it
least_left : (f : ℕ → ℕ) (number count : ℕ) → 1 ≤ count → least (λ k. number - f k) count ≡ number - greatest f count
unfolding least greatest
least_left f number zero some = absurd (omega arith)
least_left f number (suc zero) some = omega arith
least_left f number (suc (suc count)) some = omega (arith, least_left f number (suc count) (omega arith))

module _ (profile : List ℤ) (rest : ℤ) (terms : List Term) (bands : List ℕ) where
  -- a synopsis that keeps its bands has a least margin of at least a number exactly where every slot's error leaves it
  pub margin_everywhere : (margin : ℕ) → Keeps profile rest terms bands → margin ≤ least_margin profile rest terms bands
      → (slot : ℕ) → slot < slots_of profile → slot_error profile rest terms slot + margin ≤ slot_band bands slot
  margin_everywhere margin keeps within slot below =
      omega (arith, keeps.every_slot slot below, least_within (slot_margin profile rest terms bands) (slots_of profile) slot below)

  pub margin_least : (margin : ℕ) → 1 ≤ slots_of profile → ((slot : ℕ) → slot < slots_of profile → slot_error profile rest terms slot + margin ≤ slot_band bands slot)
      → margin ≤ least_margin profile rest terms bands
  margin_least margin some each =
      least_bound (slot_margin profile rest terms bands) (slots_of profile) margin some (λ slot below. omega (arith, each slot below))

  -- one band for all slots
  module _ (band : ℕ) (one_band_lem : (slot : ℕ) → slot < slots_of profile → slot_band bands slot ≡ band) where
    -- a synopsis keeps it exactly where its greatest error is within it
    pub keeps_greatest : Keeps profile rest terms bands → greatest_error profile rest terms ≤ band
    keeps_greatest keeps =
        greatest_bound (slot_error profile rest terms) (slots_of profile) band
        (λ slot below. omega (arith, keeps.every_slot slot below, one_band_lem slot below))

    pub greatest_keeps : greatest_error profile rest terms ≤ band → Keeps profile rest terms bands
    greatest_keeps within = record {
      every_slot = λ slot below. omega (arith, each_within (slot_error profile rest terms) (slots_of profile) slot below, one_band_lem slot below);
    }

    -- and its least margin is then the band less the greatest error
    pub margin_of_one_band : 1 ≤ slots_of profile → least_margin profile rest terms bands ≡ band - greatest_error profile rest terms
    margin_of_one_band some =
        least_same (slot_margin profile rest terms bands) (λ slot. band - slot_error profile rest terms slot) (slots_of profile)
        (λ slot below. ap (λ (b : ℕ). b - slot_error profile rest terms slot) (one_band_lem slot below))
        ∙ least_left (slot_error profile rest terms) band (slots_of profile) some
