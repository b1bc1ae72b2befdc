-- `trace::write_term` meets its contract: no term where the value that comes in is handed on, else one with the value that is handed on.
use Prim.Native.Nat.{◌<◌}
use native.Mathlib.Omega.{arith}
use lib.ListN.{length}
use borrow.Author.Tests.{ne_eqb}
use borrow.Author.Rules.{rules}
use mir.Syntax.{w16}
use mir.Val.{SFits}
use mir.Facts.{to_z-of_z}
use Rattle.trace.proofs.Traced.{one_appended}
use Rattle.trace.proofs.write_term.Goals as goal

pub returns : goal.returns
returns c =
    let changed = ne_eqb c.args.next c.args.value c.if-next-value.false in
    let room : c.args.count < length c.args.nodes.now = omega (arith, rw changed at c.requires.room) in
    let fits : SFits w16 c.lower.result = search rules in
    rw (changed, to_z-of_z fits, c.lower.ensures) (one_appended _ c.args.nodes.now c.args.values.now c.args.count room c.requires.same_room)
