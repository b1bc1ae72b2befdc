-- `build::least_of` meets its contract.
use mathlib.Core.Path.{◌≡◌}
use native.Mathlib.Omega.{arith}
use Rattle.build.proofs.OneBand.{common_least}
use Rattle.build.proofs.least_of.Goals as goal

pub returns-then-specials-eq0 : goal.returns-then-specials-eq0
returns-then-specials-eq0 c =
    let a = c.args in
    let none : a.specials ≡ 0 = omega arith in
    common_least a.common a.bands.now (rw none at c.requires.1) c.requires.0
