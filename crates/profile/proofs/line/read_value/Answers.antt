-- `profile::line::read_value` meets its contract: a line's own refusal comes before the check of its number.
use Rattle.std.proofs.Common.{rules}
use Rattle.profile.specs.Text.{value_refusal}
use Rattle.profile.proofs.Checks.{refused_line}
use Rattle.profile.proofs.line.read_value.Goals as goal

pub returns-in_err-line : goal.returns-in_err-line
returns-in_err-line c = search (rules, refused_line value_refusal)
