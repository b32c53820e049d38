-- `next_task::choice::Choice::is_farther` meets its contract.
use Rattle.next_task.proofs.TaskLaws.{by_minutes}
use Rattle.next_task.proofs.choice.Choice.is_farther.Goals as goal

pub returns : goal.returns
returns c = search by_minutes
