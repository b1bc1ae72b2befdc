-- `subtree::count_terms` meets its contract.
use mathlib.Core.Path.{sym, ◌∙◌}
use native.Mathlib.Omega.{arith}
use Rattle.subtree.proofs.Counting.{front, counted_inside, counted_outside}
use Rattle.subtree.proofs.count_terms.Goals as goal

pub load-number-requires : goal.load-number-requires
load-number-requires c = let stands = front c.solve.new.scratch c.requires c.solve.auto.scratch c.solve.ensures in omega (arith, stands.fits)

pub load-count-requires : goal.load-count-requires
load-count-requires c = let stands = front c.solve.new.scratch c.requires c.solve.auto.scratch c.solve.ensures in omega (arith, stands.fits)

pub is_covered-requires : goal.is_covered-requires
is_covered-requires c =
    let stands = front c.solve.new.scratch c.requires c.solve.auto.scratch c.solve.ensures in
    rw c.load-count.ensures.0 (record { within = stands.fits; small = stands.few; sorted = stands.sorted })

pub returns-then-is_covered : goal.returns-then-is_covered
returns-then-is_covered c =
    let test = rw c.load-count.ensures.0 at (sym c.is_covered.ensures ∙ c.if-is_covered.true) in
    counted_inside c.solve.new.scratch c.requires c.solve.auto.scratch c.solve.ensures c.load-number.ensures.0 test

pub returns-else-is_covered : goal.returns-else-is_covered
returns-else-is_covered c =
    let test = rw c.load-count.ensures.0 at (sym c.is_covered.ensures ∙ c.if-is_covered.false) in
    counted_outside c.solve.new.scratch c.requires c.solve.auto.scratch c.solve.ensures c.load-number.ensures.0 test
