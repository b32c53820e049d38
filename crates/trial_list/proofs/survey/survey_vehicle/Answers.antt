-- `trial_list::survey::survey_vehicle` meets its contract.
use Rattle.trial_list.proofs.RideLaws.{rides_start, rides_next, rides_end}
use Rattle.trial_list.proofs.survey.survey_vehicle.Goals as goal

pub loop-next-init : goal.loop-next-init
loop-next-init c = search rides_start

pub loop-next-preserved : goal.loop-next-preserved
loop-next-preserved c = search rides_next

pub returns : goal.returns
returns c = search rides_end
