-- `record_read::read_terms` meets its contract: each term is laid behind those before it.
use Rattle.std.proofs.Common.{rules, arith, pos, ◌≡◌, ◌∙◌}
use mir.Syntax.{w16}
use mir.Val.{SFits}
use mir.Facts.{to_z-of_z}
use Rattle.limits.proofs.Laying.{one_more_laid, all_laid}
use Rattle.record.specs.Record.{terms_end, term_in}
use Rattle.record_read.proofs.Terms.{nodes_long, values_long, node_field, value_field}
use Rattle.record_read.proofs.read_terms.Goals as goal

pub loop-i-preserved : goal.loop-i-preserved
loop-i-preserved c =
    let a = c.args in
    let bytes = a.bytes.now in
    let loop = c.loop-i in
    let more = c.loop-i-test.true in
    let fits : SFits w16 c.read_signed.result = search rules in
    let node_read : c.read.result ≡ (term_in (terms_end c.loop-i.i) c.args.bytes.now).node = search rules in
    let value_read : c.read_signed.result ≡ (term_in (terms_end c.loop-i.i) c.args.bytes.now).value = search rules in
    record {
      place_is = omega (arith, c.after-place.ensures, c.after-value_place.ensures, loop.invariant.place_is);
      nodes_laid =
          rw (node_read ∙ node_field bytes a.count loop.i more)
          (one_more_laid _ a.nodes.now loop.nodes loop.i 0 (rw (nodes_long a.count bytes) c.requires.in_nodes) loop.invariant.nodes_laid (rw (nodes_long a.count bytes) more));
      values_laid =
          rw (to_z-of_z fits, value_read ∙ value_field bytes a.count loop.i more)
          (one_more_laid _ a.values.now loop.values loop.i (pos 0) (rw (values_long a.count bytes) c.requires.in_values) loop.invariant.values_laid (rw (values_long a.count bytes) more));
    }

pub returns : goal.returns
returns c =
    let a = c.args in
    let loop = c.loop-i in
    record {
      nodes_are = all_laid _ a.nodes.now loop.nodes loop.i loop.invariant.nodes_laid (rw (nodes_long a.count a.bytes.now) c.loop-i-test.false);
      values_are = all_laid _ a.values.now loop.values loop.i loop.invariant.values_laid (rw (values_long a.count a.bytes.now) c.loop-i-test.false);
    }
