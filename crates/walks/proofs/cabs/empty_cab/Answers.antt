-- `walks::cabs::empty_cab` meets its contract.
use Rattle.walks.proofs.CabLaws.{empty_drives}
use Rattle.walks.proofs.cabs.empty_cab.Goals as goal

pub returns : goal.returns
returns c = search empty_drives
