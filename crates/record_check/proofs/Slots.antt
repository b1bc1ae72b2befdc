-- One slot of a record: the record's refusals, and then those of restoring that can still come.
use mathlib.Core.Path.{◌≡◌, sym, ◌∙◌}
use mathlib.Core.Bool.{false}
use mathlib.Core.List.{List}
use Prim.Native.Nat.{ℕ}
use native.Mathlib.Omega.{arith}
use lib.IntN.{ℤ, pos}
use lib.ListN.{take}
use borrow.Author.Tests.{ne_eqb, le-ltb}
use Rattle.limits.specs.Limits.{outside_slots}
use Rattle.histogram.specs.Terms.{paired}
use Rattle.histogram.specs.Restoring.{synopsis_refusal, SlotRestored}
use Rattle.record.specs.Record.{slots_in, terms_in}
use Rattle.record.proofs.Bounds.{few_slots}
use Rattle.record.proofs.Sound.{sound}
use Rattle.std.specs.Prelude.{Result, Ok, Err}
use Rattle.refusals.specs.declared.Refusal.{Refusal}
use Rattle.refusals.specs.Answers.{refused_with}
use Rattle.refusals.specs.Rows.{row}
use Rattle.refusals.proofs.Rows.{row_first, row_nothing}
use Rattle.record_read.specs.declared.Header.{Header}
use Rattle.record_read.specs.Inner.{RoomRead}
use Rattle.record_read.proofs.Accepted as Accepted
use Rattle.histogram.proofs.Paired.{paired_again}
use Rattle.record_check.specs.Checking.{SlotRead}

-- a record's slots are those of a profile
pub slots_inside : (bytes : List ℕ) → outside_slots (slots_in bytes) ≡ false
slots_inside bytes = rw (ne_eqb (slots_in bytes) 0 (λ same. omega arith)) (le-ltb 512 (slots_in bytes) (few_slots bytes))

module _ {bytes : List ℕ} {answer : Result Header Refusal} {nodes nodes' : List ℕ} {values values' : List ℤ} {bands bands' : List ℕ} (read : RoomRead bytes answer nodes nodes' values values' bands bands') (slot : ℕ) where
  pub refused_slot : {refusal : Refusal} → answer ≡ Err refusal → SlotRead bytes slot (row refusal) (pos 0)
  refused_slot {refusal} wrong =
      let is = rw wrong at read.refusal_is in
      record {
        refusal_is = sym (rw (← is) (row_first refusal _));
        setpoint_is = sym (row_nothing refusal _ (pos 0));
      }

  module _ {header : Header} (right : answer ≡ Ok header) where
    -- the terms in the room are the record's
    pub room_terms_lem : paired (take header.count nodes') (take header.count values') ≡ terms_in bytes
    room_terms_lem =
        rw (Accepted.room_nodes read right, Accepted.room_values read right)
        (paired_again (terms_in bytes))

    -- and not refused
    pub terms_right : synopsis_refusal header.slots header.rest (paired (take header.count nodes') (take header.count values')) ≡ 0
    terms_right =
        let is-sound = sound bytes (Accepted.record_right read right) in
        let slots_are = Accepted.slots_are read right in
        let rest_is = Accepted.rest_is read right in
        rw (room_terms_lem, slots_are, rest_is, slots_inside bytes, is-sound.rest_near, is-sound.terms_valid)

    pub restored_slot_lem : (outcome : ℕ) (setpoint : ℤ) → SlotRestored header.slots header.rest (paired (take header.count nodes') (take header.count values')) slot outcome setpoint → SlotRead bytes slot outcome setpoint
    restored_slot_lem outcome setpoint restored =
        let record_right = Accepted.record_right read right in
        let slots_are = Accepted.slots_are read right in
        let rest_is = Accepted.rest_is read right in
        let own = rw (room_terms_lem, slots_are, rest_is) at restored in
        let not_refused = rw (room_terms_lem, slots_are, rest_is) at terms_right in
        record { refusal_is = own.refusal_is ∙ rw (not_refused, record_right); setpoint_is = own.setpoint_is }
