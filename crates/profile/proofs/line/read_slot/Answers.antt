-- `profile::line::read_slot` meets its contract, by the byte behind the setpoint: a space, the byte 10, or another.
use Rattle.std.proofs.Common.{rules, arith, ◌≡◌, sym, ◌∙◌, ℕ, ◌+◌, ℤ, pos, List, get_or, drop, Result}
use mathlib.Core.Option.{some}
use mir.Syntax.{w32}
use mir.Val.{SFits}
use mir.Facts.{to_z-of_z}
use Rattle.refusals.specs.declared.Refusal.{Refusal}
use Rattle.decimal.specs.Number.{reads_as}
use Rattle.decimal.specs.Inner.{FrontRead}
use Rattle.profile.specs.declared.line.SlotLine.{SlotLine}
use Rattle.profile.specs.Text.{slot_of, line_number, line_slot}
use Rattle.profile.specs.Inner.{SlotRead}
use Rattle.profile.proofs.Fields.{front_from, in_text, slot_at_end, next_line, slot_at_space, same_following, no_slot}
use Rattle.profile.proofs.line.read_slot.Goals as goal

-- the line from the setpoint on, by what is behind the space
from_space : (text : List ℕ) (at : ℕ) (number : ℤ) (count : ℕ) → FrontRead reads_as (drop at text) number count → get_or text (at + count) 0 ≡ 32 → (common : ℤ) (answer : Result SlotLine Refusal)
    → SlotRead (slot_of (some number) (line_number (drop (at + count + 1) text))) text (at + count + 1) answer → SlotRead (line_slot common (drop at text)) text at answer
from_space text at number count front is-space common answer own =
    let said = slot_at_space text at number count front is-space common in
    let following_is = same_following text at number count front is-space in
    search (rules, said, following_is, own)

pub returns-then-mark-eq-SPACE : goal.returns-then-mark-eq-SPACE
returns-then-mark-eq-SPACE c =
    let a = c.args in
    let front = front_from a.text.now a.at c.read_front-front.ensures in
    let fits : SFits w32 c.read_front-front.result.number = search rules in
    from_space a.text.now a.at _ _ front (sym c.byte_at-mark.ensures ∙ c.if-mark-eq-SPACE.true) (pos a.common) c.read_own_band.result (rw (to_z-of_z fits) at c.read_own_band.ensures)

pub returns-then-is_beyond : goal.returns-then-is_beyond
returns-then-is_beyond c =
    let a = c.args in
    let front = front_from a.text.now a.at c.read_front-front.ensures in
    let said = slot_at_end a.text.now a.at _ _ front (sym c.byte_at-mark.ensures ∙ c.if-mark-eq-LINE_END.true) (pos a.common) in
    search (rules, said)

pub returns-then-mark-eq-LINE_END : goal.returns-then-mark-eq-LINE_END
returns-then-mark-eq-LINE_END c =
    let a = c.args in
    let front = front_from a.text.now a.at c.read_front-front.ensures in
    let is-end : get_or a.text.now (a.at + c.read_front-front.result.count) 0 ≡ 10 = sym c.byte_at-mark.ensures ∙ c.if-mark-eq-LINE_END.true in
    let said = slot_at_end a.text.now a.at _ _ front is-end (pos a.common) in
    let next = next_line a.text.now a.at _ _ front is-end in
    let inside = in_text a.text.now a.at _ _ front 10 (omega arith) is-end in
    search (rules, said, next, inside)

pub returns : goal.returns
returns c =
    let a = c.args in
    let front = front_from a.text.now a.at c.read_front-front.ensures in
    let nothing = no_slot a.text.now a.at _ _ front (λ is-end. c.if-mark-eq-LINE_END.false (c.byte_at-mark.ensures ∙ is-end)) (λ is-space. c.if-mark-eq-SPACE.false (c.byte_at-mark.ensures ∙ is-space)) (pos a.common) in
    record { refusal_is = rw nothing; line_is = tt }
