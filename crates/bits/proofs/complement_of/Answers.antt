-- `bits::complement_of` meets its contract: the last `width` bits of the number's 16 are the complement.
use mir.Facts.{to_z-of_z}
use Rattle.bits.proofs.Signs.{last_bits}
use Rattle.limits.proofs.Shifting.{one_shifted}
use native.Mathlib.Omega.{arith}
use Rattle.bits.proofs.complement_of.Goals as goal

pub returns : goal.returns
returns c =
    let a = c.args in
    rw (one_shifted 32 a.width (omega (arith, c.requires.0)), c.from.ensures, c.cast_unsigned.ensures, to_z-of_z c.ranges.number)
    (last_bits a.width a.number c.requires.0 c.requires.1)
