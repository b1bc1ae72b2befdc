-- A profile in range: past its end a list of setpoints reads as 0, so that what is read for any slot is within ±20,000.
use mathlib.Core.Logic.{⊎_elim}
use mathlib.Core.List.{List}
use Prim.Native.Nat.{ℕ, ◌≤◌}
use native.Mathlib.Omega.{arith}
use lib.IntN.{ℤ, pos, nat_abs}
use lib.ListN.{get_or-eq_default}
use Rattle.histogram.specs.Errors.{slots_of, setpoint_of}
use Rattle.histogram.proofs.Order.{below_or_not}
use Rattle.claims.specs.Best.{InRange}

pub read_within : {profile : List ℤ} {rest : ℤ} → InRange profile rest → (slot : ℕ) → nat_abs (setpoint_of profile slot) ≤ 20000
read_within {profile} in_range slot =
    ⊎_elim
    (λ counts. in_range.setpoints_within slot counts)
    (λ past. rw (get_or-eq_default profile (pos 0) {n = slot} past) (omega arith))
    (below_or_not slot (slots_of profile))
