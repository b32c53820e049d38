-- `search_steps::held::make_tables` meets its contract.
use Rattle.search_steps.proofs.TakeOverLaws.{held_short, held_plan, held_trackable, tables_made}
use borrow.Author.Rules.{rules}
use Rattle.search_steps.proofs.held.make_tables.Goals as goal

pub survey-count-requires-clause-plan : goal.survey-count-requires-clause-plan
survey-count-requires-clause-plan c = search (rules, held_short, held_plan)

pub track-requires : goal.track-requires
track-requires c = let p = c.requires in (p.0, held_trackable p.0 p.1 p.2 c.survey-count.ensures)

pub returns : goal.returns
returns c = search tables_made
