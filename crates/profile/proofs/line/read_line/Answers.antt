-- `profile::line::read_line` meets its contract where there is a line: a number up to the first byte 10, or none there.
use Rattle.std.proofs.Common.{rules, arith, ◌≡◌, sym, ◌∙◌, ◌+◌, get_or}
use Rattle.profile.proofs.Fields.{front_from, in_text, number_at_end, next_line, no_number}
use Rattle.profile.proofs.line.read_line.Goals as goal

pub returns-then-byte_at-eq-LINE_END : goal.returns-then-byte_at-eq-LINE_END
returns-then-byte_at-eq-LINE_END c =
    let a = c.args in
    let front = front_from a.text.now a.at c.read_front-front.ensures in
    let is-end : get_or a.text.now (a.at + c.read_front-front.result.count) 0 ≡ 10 = sym c.byte_at.ensures ∙ c.if-byte_at-eq-LINE_END.true in
    let said = number_at_end a.text.now a.at _ _ front is-end in
    let next = next_line a.text.now a.at _ _ front is-end in
    let inside = in_text a.text.now a.at _ _ front 10 (omega arith) is-end in
    search (rules, said, next, inside)

pub returns : goal.returns
returns c =
    let a = c.args in
    let front = front_from a.text.now a.at c.read_front-front.ensures in
    let nothing = no_number a.text.now a.at _ _ front (λ is-end. c.if-byte_at-eq-LINE_END.false (c.byte_at.ensures ∙ is-end)) in
    search (rules, nothing)
