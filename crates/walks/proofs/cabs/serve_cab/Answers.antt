-- `walks::cabs::serve_cab` meets its contract.
use Rattle.walks.proofs.CabLaws.{serve_drives}
use Rattle.walks.proofs.cabs.serve_cab.Goals as goal

pub returns : goal.returns
returns c = search serve_drives
