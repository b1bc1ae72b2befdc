-- Every profile keeps the band 40,000 with no term.
use mathlib.Core.Path.{subst, sym}
use mathlib.Core.List.{List, []}
use Prim.Native.Nat.{◌≤◌}
use native.Mathlib.Omega.{arith}
use lib.IntN.{ℤ, nat_abs, ◌-ℤ◌}
use lib.ListN.{length}
use Rattle.histogram.specs.Terms.{valid_from}
use Rattle.histogram.specs.Errors.{setpoint_of, slot_band}
use Rattle.histogram.proofs.Expected.{no_terms}
use Rattle.claims.specs.Best.{InRange, KeepingSynopsis, one_band}
use Rattle.claims.specs.Inner.{fewest_terms}
use Rattle.claims.proofs.Lifted.{lifted_within, distance_lifted}
use Rattle.claims.proofs.Reduced.{one_band_lem, synopsis_needs}

module _ {profile : List ℤ} {rest : ℤ} (in_range : InRange profile rest) where
  none_keeps_widest : KeepingSynopsis profile rest (one_band profile 40000) []
  unfolding valid_from
  none_keeps_widest = record {
    valid = tt;
    keeps = record {
      every_slot = λ slot inside.
          let setpoint-within = in_range.setpoints_within slot inside in
          subst (λ (restored : ℤ). nat_abs (setpoint_of profile slot -ℤ restored) ≤ slot_band (one_band profile 40000) slot) (sym (no_terms (length profile) rest slot))
          (omega (
            arith,
            one_band_lem profile 40000 slot inside,
            distance_lifted (setpoint_of profile slot) rest setpoint-within in_range.rest_within,
            lifted_within (setpoint_of profile slot) setpoint-within,
            lifted_within rest in_range.rest_within,
          ));
    };
  }

  pub widest_needs_none : fewest_terms profile rest (one_band profile 40000) ≤ 0
  widest_needs_none = synopsis_needs in_range none_keeps_widest
