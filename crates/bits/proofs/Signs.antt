-- A signed number's 16 bits as the code takes them: the last `width` of them are what stands for it in that width.
use mathlib.Core.Path.{◌≡◌, ◌∙◌, sym, ap}
use Prim.Native.Nat.{ℕ, zero, suc, ◌+◌, ◌-◌, ◌*◌, ◌%◌, ◌^◌, ◌<◌, ◌≤◌}
use native.Mathlib.Nat.{mod-eq_of_lt}
use native.Mathlib.Omega.{arith}
use lib.Arith.{digits_mod}
use lib.IntN.{ℤ, pos, negsuc}
use lib.Pow.{pow_pos, pow-add}
use mir.Syntax.{w16}
use mir.Val.{of_z}
use Rattle.bits.specs.Signed.{complement}
use Rattle.bits.specs.Inner.{SignedBits}
use Rattle.bits.proofs.Complement.{complement_fits}

-- some times a limit, less one more than `below`, is one time less and the limit less that
one_less : (times limit below : ℕ) → 0 < times → below < limit → times * limit - suc below ≡ (times - 1) * limit + (limit - suc below)
one_less zero limit below some less = absurd (omega arith)
one_less (suc times) limit below some less = grind arith

pub last_bits : (width : ℕ) (number : ℤ) → width ≤ 16 → SignedBits width number → of_z w16 number % 2 ^ width ≡ complement width number
last_bits width (pos number) narrow small = mod-eq_of_lt (complement_fits width (pos number) small)
last_bits width (negsuc below) narrow small =
    let rest : ℕ = 16 - width in
    let all : rest + width ≡ 16 = omega arith in
    let power : 2 ^ rest * 2 ^ width ≡ 65536 = sym (pow-add 2 rest width) ∙ ap (λ (n : ℕ). 2 ^ n) all in
    let parted : of_z w16 (negsuc below) ≡ (2 ^ rest - 1) * 2 ^ width + (2 ^ width - suc below) = rw power at (one_less (2 ^ rest) (2 ^ width) below (pow_pos rest) (omega (arith, small.small))) in
    rw parted (digits_mod (2 ^ rest - 1) (complement_fits width (negsuc below) small))
