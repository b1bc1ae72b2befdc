-- The height of a tree, counted: one leaf is doubled until each slot has one.
use mathlib.Core.Path.{◌≡◌, refl}
use mathlib.Core.Logic.{⊎_elim}
use Prim.Native.Nat.{ℕ, suc, ◌*◌, ◌^◌, ◌≤◌, ◌<◌}
use native.Mathlib.Omega.{arith}
use lib.Pow.{pow_mono}
use Rattle.histogram.specs.Tree.{height}
use Rattle.std.proofs.lemmas.Bool.{cases_lt}
use Rattle.histogram.proofs.Powers.{height_reaches, height_least}

-- the leaves after so many doublings, all of which were needed
pub record Doubled (slots times leaves : ℕ) : Type 0 where
  pub is_power : leaves ≡ 2 ^ times
  pub not_past : times ≤ height slots

pub one_leaf : (slots : ℕ) → Doubled slots 0 1
one_leaf slots = record { is_power = refl; not_past = omega arith }

pub once_more : {slots times leaves : ℕ} → Doubled slots times leaves → leaves < slots → Doubled slots (suc times) (leaves * 2)
once_more {slots} {times} before short = record {
  is_power = omega (arith, before.is_power);
  not_past = ⊎_elim (λ less. less) (λ more. absurd (omega (arith, height_reaches slots, pow_mono more, before.is_power))) (cases_lt times (height slots));
}

pub doubled_enough : {slots times leaves : ℕ} → Doubled slots times leaves → slots ≤ leaves → times ≡ height slots
doubled_enough {slots} {times} doubled long = omega (arith, doubled.not_past, height_least slots times (omega (arith, doubled.is_power)))
