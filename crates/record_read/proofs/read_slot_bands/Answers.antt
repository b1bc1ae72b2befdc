-- `record_read::read_slot_bands` meets its contract: each way out is a case of `Bands`.
use Rattle.std.proofs.Common.{rules, arith}
use Rattle.record.proofs.Bounds.{few_terms}
use Rattle.record_read.proofs.Bands.{first_right, walk_fits, by_walk}
use Rattle.record_read.proofs.read_slot_bands.Goals as goal

pub returns-then-read-eq1 : goal.returns-then-read-eq1
returns-then-read-eq1 c = first_right c.requires c.fill.ensures (search rules)

pub first_special-requires : goal.first_special-requires
first_special-requires c = search (rules, few_terms)

pub read_specials-requires : goal.read_specials-requires
read_specials-requires c = walk_fits c.requires c.fill.ensures (search rules) _ c.first_special.ensures

pub returns : goal.returns
returns c = by_walk c.requires c.fill.ensures (search rules) (λ none. omega arith) c.first_special.ensures c.read_specials.ensures
