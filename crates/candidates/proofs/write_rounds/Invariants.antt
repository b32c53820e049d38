-- `candidates::write_rounds` meets its contract.
use mathlib.Core.Path.{◌≡◌}
use mathlib.Core.List.{List}
use lib.ListN.{length}
use Rattle.rules.specs.Plan.{Round}
use Rattle.trial_list.specs.TrialRest.{listed_trial}
use Rattle.candidates.specs.Candidates.{Trying, Written}
use Rattle.candidates.proofs.write_rounds.Given as goal

abbrev pub invariant-loop-v : goal.invariant-loop-v
invariant-loop-v l =
    (rounds : List Round) → Trying l.day l.plan l.starts (listed_trial l.trial) rounds → l.count ≡ length rounds
    → Written l.day (listed_trial l.trial) rounds l.initial.work l.work l.v l.at
