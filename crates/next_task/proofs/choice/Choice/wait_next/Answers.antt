-- `next_task::choice::Choice::wait_next` meets its contract.
use Rattle.next_task.proofs.TaskLaws.{wait_home, wait_stop}
use Rattle.next_task.proofs.choice.Choice.wait_next.Goals as goal

pub returns-in-Some-clause-next_is : goal.returns-in-Some-clause-next_is
returns-in-Some-clause-next_is c = wait_stop _ _ _ _ c.in-Some.ensures

pub returns-in-None-clause-next_is : goal.returns-in-None-clause-next_is
returns-in-None-clause-next_is c = wait_home _ _ _ _ c.in-None.ensures
