-- `trace::trace_top` meets its contract.
use native.Mathlib.Omega.{arith}
use Rattle.trace.proofs.AllLevels.{root_fits, root_traced, root_alone, level_fits, level_more}
use Rattle.trace.proofs.trace_top.Goals as goal

pub write_term-count-requires : goal.write_term-count-requires
write_term-count-requires c = root_fits c.requires.0 c.requires.1

pub trace_children-requires : goal.trace_children-requires
trace_children-requires c = level_fits c.requires.0 c.requires.1 1 (omega arith) c.if-height-gt0.true (root_traced c.requires.0 c.requires.1 c.write_term-count.ensures)

pub returns-then-height-gt0 : goal.returns-then-height-gt0
returns-then-height-gt0 c =
    level_more c.requires.0 c.requires.1 1 (omega arith) c.if-height-gt0.true (root_traced c.requires.0 c.requires.1 c.write_term-count.ensures) c.trace_children.ensures

pub returns-else-height-gt0 : goal.returns-else-height-gt0
returns-else-height-gt0 c = root_alone c.requires.0 c.requires.1 c.write_term-count.ensures c.if-height-gt0.false
