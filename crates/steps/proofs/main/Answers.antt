-- What is lent is a table each time, the factory's by the rule of its entries.
use Rattle.std.proofs.Common.{refl}
use Rattle.air.proofs.FactoryTable.{factory_table}
use Rattle.steps.proofs.main.Goals as goal

pub print_runs-requires : goal.print_runs-requires
print_runs-requires c = factory_table _ tt refl
