-- `trials::search::after_trial` meets its contract.
use Rattle.trials.proofs.TrialSteps.{goes_on_lem, kept_plan, keeps_plan}
use Rattle.trials.proofs.search.after_trial.Goals as goal

pub take_over-count-requires : goal.take_over-count-requires
take_over-count-requires c = let p = c.requires.buffers in (p.0, kept_plan c.requires.made.0 c.in-Some.is, p.1, p.2)

pub returns-in-Some : goal.returns-in-Some
returns-in-Some c = keeps_plan c.requires.made.0 c.in-Some.is c.take_over-count.ensures c.first_trial.ensures

pub returns-in-None : goal.returns-in-None
returns-in-None c = goes_on_lem c.requires.made.0 c.in-None.is
