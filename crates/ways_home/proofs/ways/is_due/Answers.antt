-- `ways_home::ways::is_due` meets its contract.
use Rattle.ways_home.proofs.WayLaws.{due_by_window}
use Rattle.ways_home.proofs.ways.is_due.Goals as goal

pub returns : goal.returns
returns c = search due_by_window
