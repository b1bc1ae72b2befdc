use Rattle.std.proofs.Common.{rules, ◌≡◌, pos, to_z, of_z, w16, get_or}
use Rattle.record_write.proofs.Terms.{one_more_written, all_written}
use Rattle.record_write.proofs.put_terms.Goals as goal

pub loop-i-preserved : goal.loop-i-preserved
loop-i-preserved c =
    let a = c.args in
    let value = get_or a.values.now c.loop-i.i (pos 0) in
    let kept : to_z w16 (of_z w16 value) ≡ value = search rules in
    let put = rw kept at c.put_term-place.ensures in
    one_more_written a.nodes.now a.values.now a.bytes.now c.requires.same_length c.requires.room c.loop-i.invariant c.loop-i-test.true c.put_term-place.auto.bytes put

pub returns : goal.returns
returns c = let a = c.args in all_written a.nodes.now a.values.now a.bytes.now c.loop-i.invariant c.loop-i-test.false
