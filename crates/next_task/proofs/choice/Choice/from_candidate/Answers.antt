-- `next_task::choice::Choice::from_candidate` meets its contract: each turn passes the lowest bit that is left, by `passed_next`.
use Rattle.next_task.proofs.ChoiceLaws.{passed_next, candidate_here, none_left}
use Rattle.next_task.proofs.choice.Choice.from_candidate.Goals as goal

pub returns-then-is_candidate : goal.returns-then-is_candidate
returns-then-is_candidate g c = search candidate_here

pub loop-rest-preserved : goal.loop-rest-preserved
loop-rest-preserved g c = search passed_next

pub returns : goal.returns
returns g c = search none_left
