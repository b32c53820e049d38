-- `trial_list::survey::survey` meets its contract.
use Prim.Native.Nat.{◌-◌}
use lib.ListN.{length}
use Rattle.trial_list.proofs.SurveyLaws.{Surveys}
use Rattle.trial_list.proofs.survey.survey.Given as goal

abbrev pub invariant-loop-starts : goal.invariant-loop-starts
invariant-loop-starts l = Surveys l.day l.plan l.starts l.vehicles l.distances l.count l.at

abbrev pub decreases-loop-starts : goal.decreases-loop-starts
decreases-loop-starts l = length l.plan - l.at
