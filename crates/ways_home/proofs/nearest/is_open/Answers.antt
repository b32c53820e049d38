-- `ways_home::nearest::is_open` meets its contract.
use Rattle.ways_home.proofs.WayLaws.{open_by}
use Rattle.ways_home.proofs.nearest.is_open.Goals as goal

pub returns : goal.returns
returns c = search open_by
