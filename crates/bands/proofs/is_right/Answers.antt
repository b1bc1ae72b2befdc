use mathlib.Core.Path.{◌≡◌, sym, ◌∙◌}
use mathlib.Core.Bool.{◌&&◌}
use mathlib.Core.List.{List}
use Prim.Native.Nat.{ℕ, ◌<◌}
use Prim.Native.Nat.{suc}
use native.Mathlib.Numerals.{add-one}
use lib.ListN.{length, get_or, drop_of_length-le}
use borrow.Author.Tests.{not-true, not-false}
use Rattle.bands.specs.Bands.{special_slots, right_from}
use Rattle.bands.specs.Inner.{right_here}
use Rattle.bands.proofs.Lent.{onwards, right_there}
use Rattle.bands.proofs.is_right.Goals as goal

-- the special slot at `i`, behind the last slot seen, and those after it
turn : (specials own : List ℕ) (slots common first i : ℕ) → right_from 0 slots common (special_slots specials own) ≡ right_from first slots common (onwards specials own i)
    → length specials ≡ length own → i < length specials
    → right_from 0 slots common (special_slots specials own)
    ≡ (right_here first slots common (get_or specials i 0) (get_or own i 0) && right_from (suc (get_or specials i 0)) slots common (onwards specials own (suc i)))
turn specials own slots common first i so_far same inside = so_far ∙ right_there specials own i same inside first slots common

pub returns-then-is_wrong : goal.returns-then-is_wrong
returns-then-is_wrong c =
    let args = c.args in
    let loop = c.loop-i in
    let here = right_here loop.first args.slots args.common c.from-slot.result (get_or args.own.now loop.i 0) in
    rw (turn args.specials.now args.own.now args.slots args.common loop.first loop.i loop.invariant c.requires c.loop-i-test.true, ← c.from-slot.ensures, not-true here (sym c.is_wrong.ensures ∙ c.if-is_wrong.true))

pub loop-i-preserved : goal.loop-i-preserved
loop-i-preserved c =
    let args = c.args in
    let loop = c.loop-i in
    let here = right_here loop.first args.slots args.common c.from-slot.result (get_or args.own.now loop.i 0) in
    rw (
      turn args.specials.now args.own.now args.slots args.common loop.first loop.i loop.invariant c.requires c.loop-i-test.true,
      ← c.from-slot.ensures,
      not-false here (sym c.is_wrong.ensures ∙ c.if-is_wrong.false),
      add-one loop.i,
      add-one c.from-slot.result,
    )

pub returns : goal.returns
unfolding special_slots right_from
returns c = rw (c.loop-i.invariant, drop_of_length-le c.args.specials.now c.loop-i-test.false)
