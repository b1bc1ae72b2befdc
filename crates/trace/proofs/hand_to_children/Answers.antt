-- `trace::hand_to_children` meets its contract: a sum of numbers says whether the children's sets meet, and a test of one set says which child's the value is in.
use mathlib.Core.Path.{sym, ◌∙◌}
use native.Mathlib.Omega.{arith}
use Rattle.trace.proofs.Siblings.{handed_to_both, handed_to_left, handed_to_right}
use Rattle.trace.proofs.hand_to_children.Goals as goal

pub returns-then-load-numbers : goal.returns-then-load-numbers
returns-then-load-numbers c = handed_to_both c.requires (omega (arith, c.if-load-numbers.true, c.load-3.ensures.0, c.load-2.ensures.0, c.load.ensures.0))

pub returns-then-is_covered : goal.returns-then-is_covered
returns-then-is_covered c =
    rw c.load-then-is_covered.ensures.0
    (handed_to_left c.requires (omega (arith, c.if-load-numbers.false, c.load-3.ensures.0, c.load-2.ensures.0, c.load.ensures.0))
    (rw c.load-else-load-numbers.ensures.0 at (sym c.is_covered.ensures ∙ c.if-is_covered.true)))

pub returns-else-is_covered : goal.returns-else-is_covered
returns-else-is_covered c =
    rw c.load-else-is_covered.ensures.0
    (handed_to_right c.requires (omega (arith, c.if-load-numbers.false, c.load-3.ensures.0, c.load-2.ensures.0, c.load.ensures.0))
    (rw c.load-else-load-numbers.ensures.0 at (sym c.is_covered.ensures ∙ c.if-is_covered.false)))
