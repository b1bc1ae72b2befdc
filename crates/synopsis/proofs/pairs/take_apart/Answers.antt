use Rattle.synopsis.proofs.Parting.{one_more_apart, pairs_apart}
use Rattle.synopsis.proofs.pairs.take_apart.Goals as goal

pub loop-i-preserved : goal.loop-i-preserved
loop-i-preserved g c =
    let a = c.args in
    let pair = c.pair_out-pair in
    rw (c.first.ensures, c.second.ensures)
    (one_more_apart g.P.Pair.laws a.pairs.now a.firsts.now a.seconds.now c.requires c.min-count.result c.min-count.ensures c.loop-i.invariant pair.result (pair.ensures pair.result) c.loop-i-test.true)

pub returns : goal.returns
returns g c =
    let a = c.args in
    pairs_apart g.P.Pair.laws a.pairs.now a.firsts.now a.seconds.now c.requires c.min-count.result c.min-count.ensures c.loop-i.invariant c.loop-i-test.false
