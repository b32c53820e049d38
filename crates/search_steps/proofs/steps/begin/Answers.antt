-- `search_steps::steps::begin` meets its contract.
use Rattle.search_steps.proofs.BeginLaws.{begins}
use Rattle.search_steps.proofs.steps.begin.Goals as goal

pub returns : goal.returns
returns c = let p = c.requires.plan_at in
    begins p.0 c.make_tables-count.ensures p.1 c.first_trial.ensures
