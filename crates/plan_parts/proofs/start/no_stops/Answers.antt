-- `plan_parts::start::no_stops` meets its contract.
use mathlib.Core.Path.{refl}
use Rattle.plan_parts.specs.Walked.{none_met}
use Rattle.plan_parts.proofs.start.no_stops.Goals as goal

pub returns : goal.returns
unfolding none_met
returns c = refl
