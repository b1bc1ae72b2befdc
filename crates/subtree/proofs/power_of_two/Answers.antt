-- `subtree::power_of_two` meets its contract.
use Prim.Native.Nat.{◌≤◌, ◌^◌}
use native.Mathlib.Omega.{arith}
use lib.Pow.{pow_mono}
use Rattle.limits.proofs.Shifting.{one_shifted}
use Rattle.subtree.proofs.power_of_two.Goals as goal

pub returns : goal.returns
returns c =
    let small : 2 ^ c.args.exponent ≤ 2 ^ 9 = pow_mono c.requires in
    let is = one_shifted 32 c.args.exponent (omega arith) in
    (is, omega arith)
