-- `record_read::read_second_count` meets its contract: too short for the count of special slots, or the frame by it.
use Rattle.std.proofs.Common.{rules}
use Rattle.record.proofs.Bounds.{few_terms}
use Rattle.record_read.proofs.read_second_count.Goals as goal

pub record_length-requires : goal.record_length-requires
record_length-requires c = search (rules, few_terms)

pub after_terms-requires : goal.after_terms-requires
after_terms-requires c = search (rules, few_terms)
