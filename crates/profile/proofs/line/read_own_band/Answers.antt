-- `profile::line::read_own_band` meets its contract: where what is behind the space is no line with a number, the whole line is refused with 1.
use Rattle.std.proofs.Common.{◌≡◌, drop}
use mathlib.Core.Option.{none}
use Rattle.refusals.proofs.Rows.{row_counts}
use Rattle.profile.specs.Text.{line_number}
use Rattle.profile.proofs.Checks.{line_none}
use Rattle.profile.proofs.line.read_own_band.Goals as goal

pub returns-in_default : goal.returns-in_default
returns-in_default c =
    let own = c.in_default.ensures in
    let nothing : line_number (drop c.args.at c.args.text.now) ≡ none = line_none (drop c.args.at c.args.text.now) (rw (← own.refusal_is) (row_counts c.in_default.field-0)) in
    record { refusal_is = rw nothing; line_is = tt }
