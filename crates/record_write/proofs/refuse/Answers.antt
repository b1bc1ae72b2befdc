-- `record_write::refuse` meets its contract: the tests come in the refusals' order.
use Rattle.std.proofs.Common.{rules}
use native.Mathlib.Omega.{arith}
use Rattle.histogram.proofs.Powers.{padded_bound}
use Rattle.record_write.proofs.refuse.Goals as goal

pub overflow_mul-padded_length : goal.overflow_mul-padded_length
overflow_mul-padded_length c = omega (arith, padded_bound {n = c.args.slots} (search rules))
