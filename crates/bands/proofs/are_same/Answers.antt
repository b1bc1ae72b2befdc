use mathlib.Core.Path.{sym, ap, ◌∙◌}
use mathlib.Core.List.{List}
use Prim.Native.Nat.{ℕ}
use native.Mathlib.Omega.{arith}
use lib.ListN.{length, drop_of_length-le}
use borrow.Author.Tests.{eq-eqb, ne_eqb}
use Rattle.bands.specs.Bands.{same_bands}
use Rattle.bands.proofs.Same.{differ, same_from}
use Rattle.bands.proofs.are_same.Goals as goal

pub returns-then-bands-others : goal.returns-then-bands-others
returns-then-bands-others c = sym (differ c.args.bands.now c.args.others.now (λ equal. c.if-bands-others.true (ap (λ (l : List ℕ). length l) equal)))

pub returns-then-bands-slot : goal.returns-then-bands-slot
returns-then-bands-slot c =
    rw (c.loop-slot.invariant, same_from c.args.bands.now c.args.others.now c.loop-slot.slot (omega arith) (omega arith), ne_eqb _ _ c.if-bands-slot.true)

pub loop-slot-preserved : goal.loop-slot-preserved
loop-slot-preserved c =
    c.loop-slot.invariant ∙ rw (same_from c.args.bands.now c.args.others.now c.loop-slot.slot (omega arith) (omega arith), eq-eqb _ _ c.if-bands-slot.false)

pub returns : goal.returns
unfolding same_bands
returns c =
    let loop = c.loop-slot in
    let args = c.args in
    rw (
      loop.invariant,
      drop_of_length-le args.bands.now {i = loop.slot} (omega arith),
      drop_of_length-le args.others.now {i = loop.slot} (omega arith),
    )
