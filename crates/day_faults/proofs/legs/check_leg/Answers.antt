-- `day_faults::legs::check_leg` meets its contract.
use Rattle.day_faults.proofs.Judged.{leg_judged}
use Rattle.day_faults.proofs.legs.check_leg.Goals as goal

pub returns : goal.returns
returns c = search leg_judged
