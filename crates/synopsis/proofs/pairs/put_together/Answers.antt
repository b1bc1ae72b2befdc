use Rattle.std.proofs.Common.{arith, rules}
use Rattle.limits.proofs.Laying.{all_laid}
use Rattle.synopsis.proofs.Parting.{all_many, one_more_put}
use Rattle.synopsis.proofs.pairs.put_together.Goals as goal

pub loop-i-preserved : goal.loop-i-preserved
loop-i-preserved g c =
    let a = c.args in
    rw (c.pair_in.ensures, c.pair.ensures)
    (one_more_put g.P.Pair.laws a.firsts.now a.seconds.now c.requires.0 a.pairs.now c.loop-i.pairs c.loop-i.i c.requires.1 c.loop-i.invariant c.loop-i-test.true _ _ (search rules) (search rules))

pub returns : goal.returns
returns g c =
    let many = all_many g.P.Pair.laws c.args.firsts.now c.args.seconds.now c.requires.0 in
    all_laid (g.P.Pair.together c.args.firsts.now c.args.seconds.now) c.args.pairs.now c.loop-i.pairs c.loop-i.i c.loop-i.invariant (omega (arith, many, c.loop-i-test.false))
