-- `walks::cabs::rest_cab` meets its contract.
use Rattle.walks.proofs.CabLaws.{rest_drives, keep_drives}
use Rattle.walks.proofs.cabs.rest_cab.Goals as goal

pub returns-then-is_due : goal.returns-then-is_due
returns-then-is_due c = search rest_drives

pub returns : goal.returns
returns c = search keep_drives
