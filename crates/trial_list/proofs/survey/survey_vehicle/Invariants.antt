-- `trial_list::survey::survey_vehicle` meets its contract.
use Prim.Native.Nat.{◌-◌}
use lib.ListN.{length}
use Rattle.trial_list.proofs.RideLaws.{Rides}
use Rattle.trial_list.proofs.survey.survey_vehicle.Given as goal

abbrev pub invariant-loop-next : goal.invariant-loop-next
invariant-loop-next l = Rides l.day l.plan l.from l.number l.initial.vehicles l.vehicles l.at l.ride

abbrev pub decreases-loop-next : goal.decreases-loop-next
decreases-loop-next l = length l.plan - l.at
