-- The search in any table: its flows never fall, so those that do not reach the given one come first, and the step after them is the lowest that reaches it.
use Rattle.std.proofs.Common.{◌≡◌, ℕ, ◌-◌, ◌≤◌, ◌<◌, Bool, true, false, ltb, List, length, refl, subst, arith, ltb-true, ltb-false}
use Rattle.std.specs.List.Sorted.{IsPartitionedBy, IsPartitionPoint}
use Rattle.std.proofs.lemmas.List.Sorted.{IsNonDecreasingBy-from_default, IsPartitionedBy-ltb}
use native.Mathlib.Nat.{add-sub_of_le}
use Rattle.air.specs.Flows.{lowest_step}
use Rattle.air.specs.Inner.{entry_of, Searchable}
use Rattle.air.proofs.LowestStep.{lowest_only, rises}

-- whether an entry does not reach a flow
abbrev pub is_short : ℕ → ℕ → Bool
is_short flow entry = ltb entry flow

module _ (flows : List ℕ) (flow : ℕ) (search : Searchable flows flow) where
  never_falls : (lower step : ℕ) → lower ≤ step → step < length flows → entry_of flows lower ≤ entry_of flows step
  never_falls lower step before inside =
      subst (λ (at : ℕ). entry_of flows lower ≤ entry_of flows at) (add-sub_of_le before)
      (rises search.table.is_table lower (step - lower) (omega (arith, search.table.each_step)))

  pub short_first : IsPartitionedBy (is_short flow) flows
  short_first = IsPartitionedBy-ltb (λ entry. entry) flows flow (IsNonDecreasingBy-from_default (λ entry. entry) flows 0 never_falls)

  pub found : (step : ℕ) → step ≤ length flows → IsPartitionPoint (λ entry. is_short flow entry ≡ true) (λ entry. is_short flow entry ≡ false) flows step
      → step ≡ lowest_step (entry_of flows) flow
  found step inside parted =
      lowest_only (entry_of flows) flow step
      (record { is_a_step = in_table; reaches = ltb-false (entry_of flows step) flow (parted.1 step 0 (omega arith) (omega (arith, in_table, search.table.each_step))); no_lower = short })
    where
      short : (lower : ℕ) → lower < step → entry_of flows lower < flow
      short lower below = ltb-true (entry_of flows lower) flow (parted.0 lower 0 (omega arith) below)

      in_table : step ≤ 400
      in_table = by_end (ltb 400 step) refl
        where
          by_end : (beyond : Bool) → ltb 400 step ≡ beyond → step ≤ 400
          by_end true is = absurd (omega (arith, short 400 (ltb-true 400 step is), search.table.is_table.ends, search.within))
          by_end false is = ltb-false 400 step is
