-- `ways_home::ways::rest_if_due` meets its contract.
use Rattle.ways_home.proofs.HomeLaws.{rest_taken, rest_not}
use Rattle.ways_home.proofs.ways.rest_if_due.Goals as goal

pub returns-then-not-is_due : goal.returns-then-not-is_due
returns-then-not-is_due c = search rest_not

pub returns : goal.returns
returns c = search rest_taken
