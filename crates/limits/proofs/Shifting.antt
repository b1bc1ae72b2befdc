-- A shift of 1 as the code has it, `1 * 2 ^ n % 2 ^ width`: the power, where nothing is shifted out.
use mathlib.Core.Path.{◌≡◌, ap, ◌∙◌}
use Prim.Native.Nat.{ℕ, ◌*◌, ◌%◌, ◌^◌, ◌<◌}
use native.Mathlib.Nat.{one-mul, mod-eq_of_lt}
use lib.Pow.{pow-lt}

pub one_shifted : (width count : ℕ) → count < width → 1 * 2 ^ count % 2 ^ width ≡ 2 ^ count
one_shifted width count small = ap (λ (number : ℕ). number % 2 ^ width) (one-mul (2 ^ count)) ∙ mod-eq_of_lt (pow-lt small)
