-- `build::tree::height_over` meets its contract.
use Rattle.std.proofs.Common.{◌∙◌}
use native.Mathlib.Numerals.{add-one}
use Rattle.histogram.proofs.Doubling.{once_more, doubled_enough}
use Rattle.build.proofs.tree.height_over.Goals as goal

pub loop-leaves-preserved : goal.loop-leaves-preserved
loop-leaves-preserved c = rw (add-one c.loop-leaves.height) (once_more c.loop-leaves.invariant c.loop-leaves-test.true)

pub returns : goal.returns
returns c = c.from.ensures ∙ doubled_enough c.loop-leaves.invariant c.loop-leaves-test.false
