-- `air::search_step` meets its contract: where the entries that do not reach the flow end, the lowest step is found.
use Rattle.std.proofs.Common.{rules}
use Rattle.std.proofs.lemmas.List.Sorted.{IsPartitionPoint-from_clause}
use Rattle.air.proofs.Searching.{is_short, short_first, found}
use Rattle.air.proofs.search_step.Goals as goal

pub returns : goal.returns
returns c =
    let flows = c.args.flows.now in
    let flow = c.args.flow in
    let parts = c.partition_point.ensures in
    found flows flow c.requires _ parts.bound
    (IsPartitionPoint-from_clause (is_short flow) flows _ parts.partitioned (short_first flows flow c.requires) (λ a r f' k. search rules))
