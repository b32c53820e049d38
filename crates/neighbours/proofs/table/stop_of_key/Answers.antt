-- `neighbours::table::stop_of_key` meets its contract.
use Rattle.laws.proofs.Tests.{branches}
use Rattle.neighbours.specs.Tables.{stop_of_key}
use Rattle.neighbours.proofs.table.stop_of_key.Goals as goal

pub returns-then-key-eq-NO_KEY : goal.returns-then-key-eq-NO_KEY
unfolding stop_of_key
returns-then-key-eq-NO_KEY c = search branches

pub returns-else-key-eq-NO_KEY : goal.returns-else-key-eq-NO_KEY
unfolding stop_of_key
returns-else-key-eq-NO_KEY c = search branches
