-- `bits::with_field` meets its contract: no shift loses a bit, since the number stays below 2^24.
use Rattle.bits.proofs.Shifts.{with_field_shifted, with_field_fits}
use Rattle.bits.proofs.with_field.Goals as goal

pub overflow_add-result-2 : goal.overflow_add-result-2
overflow_add-result-2 c = with_field_fits c.args.word c.args.width c.args.after c.args.number c.requires

pub returns : goal.returns
returns c = with_field_shifted c.args.word c.args.width c.args.after c.args.number c.requires
