-- `record_read::close_frame` meets its contract: a byte count and a fill that are right, or no frame.
use Rattle.std.proofs.Common.{rules}
use Rattle.record.proofs.Bounds.{few_terms, few_specials}
use Rattle.record_read.proofs.close_frame.Goals as goal

pub record_length-requires : goal.record_length-requires
record_length-requires c = search (rules, few_terms, few_specials)

pub read_fill-requires : goal.read_fill-requires
read_fill-requires c = search (rules, few_terms, few_specials)
