use mathlib.Core.Path.{ap, ◌∙◌}
use Prim.Native.Nat.{ℕ, suc, ◌^◌}
use native.Mathlib.Omega.{arith}
use lib.Pow.{pow_pos}
use Rattle.histogram.proofs.Doubling.{one_leaf, once_more, doubled_enough}
use Rattle.histogram.proofs.terms.padded_length.Goals as goal

pub loop-length-init : goal.loop-length-init
loop-length-init c = (0, one_leaf c.args.slots)

pub loop-length-smaller : goal.loop-length-smaller
loop-length-smaller c = let inv = c.loop-length.invariant in omega (arith, inv.1.is_power, pow_pos inv.0)

pub loop-length-preserved : goal.loop-length-preserved
loop-length-preserved c = let inv = c.loop-length.invariant in (suc inv.0, once_more inv.1 c.loop-length-test.true)

pub returns : goal.returns
returns c =
    let doubled = c.loop-length.invariant.1 in
    doubled.is_power ∙ ap (λ (times : ℕ). 2 ^ times) (doubled_enough doubled c.loop-length-test.false)
