-- `trace::trace_level` meets its contract. The measure is the height.
use Rattle.trace.proofs.+trace_level.Given as goal

abbrev pub decreases-trace_level : goal.decreases-trace_level
decreases-trace_level l = l.height
