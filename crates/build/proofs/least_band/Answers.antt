-- `build::least_band` meets its contract.
use Rattle.std.proofs.Common.{◌≡◌, refl, Err, length, arith, rules}
use mir.Facts.{to_z-of_z}
use Rattle.refusals.specs.Rows.{row}
use Rattle.refusals.proofs.Rows.{row_counts}
use Rattle.build.specs.LeastBand.{least_band_refusal}
use Rattle.build.proofs.Accepted.{findable}
use Rattle.build.proofs.least_band.Goals as goal

pub returns-in_err-refuse_least_band : goal.returns-in_err-refuse_least_band
returns-in_err-refuse_least_band c =
    let a = c.args in
    let refusal = c.in_err-refuse_least_band.field-0.0 in
    let is : row refusal ≡ least_band_refusal a.setpoints.now a.rest a.budget (length a.scratch.now) = search rules in
    let returned : c.from_residual.result ≡ Err refusal = search rules in
    rw returned record {
      refusal_is = is;
      least = λ none. absurd (omega (arith, row_counts refusal));
      scratch_refused = λ some. refl;
    }

pub least_band_of-requires : goal.least_band_of-requires
least_band_of-requires c =
    let a = c.args in
    let none : least_band_refusal a.setpoints.now a.rest a.budget (length a.scratch.now) ≡ 0 = search rules in
    rw (to_z-of_z c.ranges.rest) (findable a.setpoints.now a.rest a.budget a.scratch.now none)
