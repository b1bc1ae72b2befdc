-- `build::error_of` meets its contract.
use mathlib.Core.Path.{◌≡◌, ◌∙◌}
use native.Mathlib.Omega.{arith}
use mir.Facts.{to_z-of_z}
use Rattle.histogram.specs.Terms.{paired}
use Rattle.histogram.proofs.Kept.{keeps_kept}
use Rattle.build.proofs.OneBand.{margin_within, error_left}
use Rattle.build.proofs.error_of.Goals as goal

pub overflow_sub-result : goal.overflow_sub-result
overflow_sub-result c =
    let a = c.args in
    let none : a.specials ≡ 0 = omega arith in
    margin_within a.common a.bands.now (rw none at c.requires.1) c.requires.0

pub returns-then-specials-eq0 : goal.returns-then-specials-eq0
returns-then-specials-eq0 c =
    let a = c.args in
    let none : a.specials ≡ 0 = omega arith in
    error_left a.common a.bands.now (rw none at c.requires.1) c.requires.0

-- the bands are kept, so there is an error to take
pub unwrap-requires : goal.unwrap-requires
unwrap-requires c =
    let a = c.args in
    let verdict = rw (to_z-of_z c.ranges.rest) at c.judge.ensures in
    verdict.kept_is ∙ keeps_kept a.setpoints.now a.rest (paired a.nodes.now a.values.now) a.bands.now c.requires.0.keeps
