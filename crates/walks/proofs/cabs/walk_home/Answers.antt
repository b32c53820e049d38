-- `walks::cabs::walk_home` meets its contract.
use native.Mathlib.Omega.{arith}
use Rattle.walks.proofs.CabLaws.{some_rested}
use Rattle.walks.proofs.WalkLaws.{home_stands, home_loaded, home_drives}
use Rattle.walks.proofs.cabs.walk_home.Goals as goal

pub empty_first-requires : goal.empty_first-requires
empty_first-requires c = (c.requires.0, home_stands (some_rested c.requires.1 c.rest_cab-rested.ensures) (grind arith), home_loaded (grind arith))

pub returns : goal.returns
returns c = home_drives c.rest_cab-rested.ensures c.empty_first.ensures (grind arith)
