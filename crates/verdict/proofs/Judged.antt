-- From the values handed down to all nodes to the verdict: the slots' part of them is what a synopsis restores.
use mathlib.Core.Path.{◌≡◌, ap, ◌∙◌}
use mathlib.Core.Bool.{cond}
use Rattle.std.specs.Prelude.{Result, is_ok}
use mathlib.Core.List.{List}
use Prim.Native.Nat.{ℕ, ◌+◌, ◌*◌, ◌-◌, ◌≤◌, ◌<◌}
use native.Mathlib.Omega.{arith}
use lib.Dec.{leb, ltb}
use lib.IntN.{ℤ, pos, nat_abs, ◌-ℤ◌}
use lib.ListN.{length, get_or, take, drop}
use lib.Seq.{get_or-take, get_or-drop}
use Rattle.limits.proofs.Lowest.{lowest_same}
use Rattle.histogram.specs.Tree.{padded}
use Rattle.histogram.specs.Terms.{paired}
use Rattle.histogram.specs.Restored.{restored_at, restored_slot}
use Rattle.histogram.specs.Errors.{setpoint_of, slot_error, slot_band, slot_margin}
use Rattle.histogram.proofs.Kept.{every_same}
use Rattle.histogram.proofs.Margins.{least_same}
use Rattle.histogram.proofs.Powers.{height_reaches}
use Rattle.verdict.specs.declared.Kept.{Kept}
use Rattle.verdict.specs.declared.Beyond.{Beyond}
use Rattle.verdict.specs.Verdict.{Judged}
use Rattle.verdict.specs.Inner.{difference, Compared, Judgeable}
use Rattle.verdict.proofs.Verdicts.{greatest_same}

module _ (profile : List ℤ) (bands : List ℕ) (rest : ℤ) (nodes : List ℕ) (values : List ℤ) (asked : Judgeable profile bands rest nodes values)
    (first : ℕ) (first_is : first ≡ padded (length profile)) (after : List ℤ) (room : 2 * first ≤ length after)
    (at_node : (node : ℕ) → node < 2 * first → get_or after node (pos 0) ≡ restored_at rest (paired nodes values) node) where
  -- the part of the slots that count
  abbrev part : List ℤ
  part = take (first + length profile - first) (drop first after)

  in_leaves : length profile ≤ first
  in_leaves = omega (arith, height_reaches (length profile))

  -- what stands in a slot is what the synopsis restores there
  slot_value : (slot : ℕ) → slot < length profile → get_or part slot (pos 0) ≡ restored_slot (length profile) rest (paired nodes values) slot
  slot_value slot below =
      get_or-take (first + length profile - first) (drop first after) slot (pos 0) (omega arith)
      ∙ get_or-drop first after slot (pos 0)
      ∙ at_node (first + slot) (omega (arith, in_leaves))
      ∙ ap (λ (m : ℕ). restored_at rest (paired nodes values) (m + slot)) first_is

  same_error : (slot : ℕ) → slot < length profile → difference profile part slot ≡ slot_error profile rest (paired nodes values) slot
  same_error slot below = ap (λ (value : ℤ). nat_abs (setpoint_of profile slot -ℤ value)) (slot_value slot below)

  pub judged : (verdict : Result Kept Beyond) → Compared profile part bands verdict → Judged profile rest (paired nodes values) bands verdict
  judged verdict compared = record {
    kept_is =
        compared.kept_is
        ∙ every_same (λ k. leb (difference profile part k) (slot_band bands k)) (λ k. leb (slot_error profile rest (paired nodes values) k) (slot_band bands k)) (length profile)
        (λ k below. ap (λ (e : ℕ). leb e (slot_band bands k)) (same_error k below));
    error_is =
        compared.error_is
        ∙ ap (λ (e : ℕ). cond (is_ok verdict) e 0) (greatest_same (difference profile part) (slot_error profile rest (paired nodes values)) (length profile) same_error);
    margin_is =
        compared.margin_is
        ∙ ap (λ (g : ℕ). cond (is_ok verdict) g 0)
        (least_same (λ k. slot_band bands k - difference profile part k) (slot_margin profile rest (paired nodes values) bands) (length profile)
        (λ k below. ap (λ (e : ℕ). slot_band bands k - e) (same_error k below)));
    slot_is =
        compared.slot_is
        ∙ ap (λ (s : ℕ). cond (is_ok verdict) 0 s)
        (lowest_same (λ k. ltb (slot_band bands k) (difference profile part k)) (λ k. ltb (slot_band bands k) (slot_error profile rest (paired nodes values) k)) (length profile)
        (λ k below. ap (ltb (slot_band bands k)) (same_error k below)));
  }
