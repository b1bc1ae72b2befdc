-- Errors, bands and margins: document 01, "The setpoint in a slot", as document 02's F-3 and F-6 have it. For the auditor.
-- Bands are given as the band that each slot goes by, one after the other.
-- `proofs/Kept.antt` shows that `kept` says what `Keeps` says: `kept_keeps`, `keeps_kept`;
-- `proofs/Margins.antt` that a synopsis keeps one band for all slots exactly where its greatest error is within it, `keeps_greatest` and `greatest_keeps`,
-- and that its least margin is then the band less the greatest error: `margin_of_one_band`.
use Rattle.std.specs.Prelude.{Bool, true, ◌&&◌, List, ℕ, zero, suc, ◌-◌, ◌≤◌, ◌<◌, min, max, leb, ℤ, pos, ◌-ℤ◌, nat_abs, length, get_or}
use Rattle.histogram.specs.declared.Term.{Term}
use Rattle.histogram.specs.Restored.{restored_slot}

-- the slots that count, from slot 0 on: "slots below n alone"; slots n to m-1 are filler, and "filler carries no setpoint"
abbrev pub slots_of : List ℤ → ℕ
slots_of profile = length profile

-- the setpoint of a slot that counts
abbrev pub setpoint_of : List ℤ → ℕ → ℤ
setpoint_of profile slot = get_or profile slot (pos 0)

-- "An error is the absolute difference of setpoint and restored setpoint"
abbrev pub slot_error : List ℤ → ℤ → List Term → ℕ → ℕ
slot_error profile rest terms slot = nat_abs (setpoint_of profile slot -ℤ restored_slot (length profile) rest terms slot)

-- the band that a slot goes by
abbrev pub slot_band : List ℕ → ℕ → ℕ
slot_band bands slot = get_or bands slot 0

-- the greatest of what a function gives for 0, 1 and on, `count` of them; 0 for none
unfoldable pub greatest : (ℕ → ℕ) → ℕ → ℕ
greatest f zero = 0
greatest f (suc count) = max (greatest f count) (f count)

-- the greatest error over the slots that count
abbrev pub greatest_error : List ℤ → ℤ → List Term → ℕ
greatest_error profile rest terms = greatest (slot_error profile rest terms) (slots_of profile)

-- F-6, "margin, band minus error", of a slot whose error is within its band
abbrev pub slot_margin : List ℤ → ℤ → List Term → List ℕ → ℕ → ℕ
slot_margin profile rest terms bands slot = slot_band bands slot - slot_error profile rest terms slot

-- the least of what a function gives for 0, 1 and on, `count` of them; 0 for none
unfoldable pub least : (ℕ → ℕ) → ℕ → ℕ
least f zero = 0
least f (suc zero) = f 0
least f (suc (suc count)) = min (least f (suc count)) (f (suc count))

-- "the least margin" over the slots that count
abbrev pub least_margin : List ℤ → ℤ → List Term → List ℕ → ℕ
least_margin profile rest terms bands = least (slot_margin profile rest terms bands) (slots_of profile)

-- "A synopsis keeps a band when every slot's error is within it", by "the slot's band"; "an error equal to the band is within it"
pub record Keeps (profile : List ℤ) (rest : ℤ) (terms : List Term) (bands : List ℕ) : Type 0 where
  pub every_slot : (slot : ℕ) → slot < slots_of profile → slot_error profile rest terms slot ≤ slot_band bands slot

-- whether 0, 1 and on, `count` of them, all pass a test
unfoldable pub every : (ℕ → Bool) → ℕ → Bool
every test zero = true
every test (suc count) = every test count && test count

-- `Keeps` as a test: "kept"
abbrev pub kept : List ℤ → ℤ → List Term → List ℕ → Bool
kept profile rest terms bands = every (λ slot. leb (slot_error profile rest terms slot) (slot_band bands slot)) (slots_of profile)
