-- `walks::cabs::walk_stop` meets its contract.
use Rattle.walks.proofs.WalkLaws.{stop_fails, stop_serves, some_served}
use Rattle.walks.proofs.cabs.walk_stop.Goals as goal

pub returns-in_err-ahead : goal.returns-in_err-ahead
returns-in_err-ahead c = rw c.from_residual.ensures (stop_fails _ c.stop_quantity.ensures c.is_full-full.ensures c.in_err-ahead.ensures)

pub serve_cab-requires : goal.serve_cab-requires
serve_cab-requires c = (c.requires.0, some_served _ c.requires.1 c.in_ok-ahead.ensures, c.requires.2, c.requires.3)

pub returns : goal.returns
returns c = stop_serves _ c.stop_quantity.ensures c.is_full-full.ensures _ _ c.in_ok-ahead.ensures c.serve_cab.ensures
