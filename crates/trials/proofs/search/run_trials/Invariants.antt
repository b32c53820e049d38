-- `trials::search::run_trials` meets its contract.
use mathlib.Core.Path.{◌≡◌}
use lib.ListN.{length}
use Rattle.search_steps.specs.Searches.{Searching, steps_left}
use Rattle.trials.proofs.search.run_trials.Given as goal

abbrev pub invariant-loop-work : goal.invariant-loop-work
invariant-loop-work l = Searching l.day l.set.sets.now l.set.budget l.plan l.tables l.s × (length l.plan ≡ length l.initial.plan) × (length l.work ≡ length l.initial.work)

abbrev pub decreases-loop-work : goal.decreases-loop-work
decreases-loop-work l = steps_left l.set.sets.now l.set.budget l.s
