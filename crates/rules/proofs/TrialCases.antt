-- What planning with trials computes by, for the lettered cases of document 01. Assumes nothing.
use Rattle.rules.specs.Lists.{total}
use Rattle.rules.specs.Plan.{stops_on}
use Rattle.rules.specs.Lawful.{distance_from}
use Rattle.rules.specs.Neighbours.{compatible, neighbour_key, behind, next_neighbour, neighbours_after, neighbours}
use Rattle.rules.specs.Edits.{change_stop, change_tip, change, changed, touches}
use Rattle.rules.specs.TrialList.{each, rising, vehicle_from, pair_trials, stop_trials, other_tip, task_trials, round_trials, tip_trials, trial_list}
use Rattle.rules.specs.Attempts.{inserting, emptied_first, exceeds, serving_then, walk_task, walk_next, walk_on, walk_home, done_by, walked_again}
use Rattle.rules.specs.Attempts.{retried, joined, tried_from, distance_of, is_lawful, kept_if, attempt}
use Rattle.rules.specs.Search.{run, improve, searched}
use Rattle.rules.proofs.BuildCases.{built}

-- all that a trial list computes by
unfoldable listed : Unit {0}
unfolding compatible neighbour_key behind next_neighbour neighbours_after neighbours each rising vehicle_from pair_trials stop_trials other_tip task_trials round_trials tip_trials trial_list
listed = tt

-- all that a walk computes by
unfoldable walked : Unit {0}
unfolding change_stop change_tip change changed touches inserting emptied_first exceeds serving_then walk_task walk_next walk_on walk_home done_by walked_again
walked = tt

-- all that planning with trials computes by
unfoldable pub tried : Unit {0}
unfolding built listed walked stops_on total distance_from retried joined tried_from distance_of is_lawful kept_if attempt searched run improve
tried = tt
