-- `profile::line::read_band` meets its contract: a line's own refusal comes before the check of its number.
use Rattle.std.proofs.Common.{rules, ◌≡◌, Err}
use Rattle.profile.specs.Text.{band_refusal}
use Rattle.profile.proofs.Checks.{refused_line}
use Rattle.profile.proofs.line.read_band.Goals as goal

pub returns-in_err-line : goal.returns-in_err-line
returns-in_err-line c =
    let is : c.from_residual.result ≡ Err c.in_err-line.field-0.0 = search rules in
    rw is (refused_line band_refusal c.in_err-line.ensures)
