-- `neighbours::table::key_above` meets its contract.
use Rattle.laws.proofs.Tests.{branches}
use Rattle.neighbours.specs.Tables.{key_above}
use Rattle.neighbours.proofs.table.key_above.Goals as goal

pub returns-then-last-key : goal.returns-then-last-key
unfolding key_above
returns-then-last-key c = search branches

pub returns-else-last-key : goal.returns-else-last-key
unfolding key_above
returns-else-last-key c = search branches
