-- `trace::hand_on` meets its contract: the number at place 1 is how many windows there are.
use mathlib.Core.Path.{sym, ◌∙◌}
use Rattle.trace.proofs.Chosen.{lowest_there}
use Rattle.trace.proofs.hand_on.Goals as goal

pub returns-else-is_covered : goal.returns-else-is_covered
returns-else-is_covered c = rw (rw c.load.ensures.0 at (sym c.is_covered.ensures ∙ c.if-is_covered.false), lowest_there c.requires) c.load-else-is_covered.ensures.0
