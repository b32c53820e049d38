-- `ways_home::ways::is_home_direct` meets its contract.
use Rattle.ways_home.proofs.WayLaws.{home_by}
use Rattle.ways_home.proofs.ways.is_home_direct.Goals as goal

pub returns : goal.returns
returns c = search home_by
