-- Restoring from a list of terms: refusals and answers. For the auditor.
use Rattle.std.specs.Prelude.{◌≡◌, not, List, [], ℕ, leb, ltb, ℤ, pos, length}
use Rattle.limits.specs.Answers.{◌when◌, ◌then◌, granted, laid}
use Rattle.limits.specs.Limits.{beyond, outside_slots}
use Rattle.histogram.specs.declared.Term.{Term}
use Rattle.histogram.specs.Terms.{valid}
use Rattle.histogram.specs.Restored.{restored_slot, restored_profile}

-- what is wrong with n slots, a rest value and a list of terms: 4, 2, 8
abbrev pub synopsis_refusal : ℕ → ℤ → List Term → ℕ
synopsis_refusal n rest terms = 4 when outside_slots n then 2 when beyond 20000 rest then 8 when not (valid n terms)

-- one slot: the synopsis's, then 10
abbrev pub slot_refusal : ℕ → ℤ → List Term → ℕ → ℕ
slot_refusal n rest terms slot = synopsis_refusal n rest terms then 10 when leb n slot

-- every slot: the synopsis's, then 6
abbrev pub restoring_refusal : ℕ → ℤ → List Term → ℕ → ℕ
restoring_refusal n rest terms places = synopsis_refusal n rest terms then 6 when ltb places n

-- the answer for one slot
pub record SlotRestored (n : ℕ) (rest : ℤ) (terms : List Term) (slot : ℕ) (refusal : ℕ) (setpoint : ℤ) : Type 0 where
  pub refusal_is : refusal ≡ slot_refusal n rest terms slot
  pub setpoint_is : setpoint ≡ granted refusal (restored_slot n rest terms slot) (pos 0)

-- the answer for every slot, and what the destination holds before and after
pub record ProfileRestored (n : ℕ) (rest : ℤ) (terms : List Term) (refusal : ℕ) (before after : List ℤ) : Type 0 where
  pub refusal_is : refusal ≡ restoring_refusal n rest terms (length before)
  pub destination_is : after ≡ laid (granted refusal (restored_profile n rest terms) []) before
