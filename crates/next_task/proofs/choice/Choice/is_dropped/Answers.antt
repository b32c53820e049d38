-- `next_task::choice::Choice::is_dropped` meets its contract.
use Rattle.next_task.proofs.TaskLaws.{not_farther}
use Rattle.next_task.proofs.choice.Choice.is_dropped.Goals as goal

pub returns-in-None : goal.returns-in-None
returns-in-None c = not_farther _ _ _ _ c.in-None.ensures.number_is
