-- `next_task::choice::Choice::tip_next` meets its contract.
use Rattle.next_task.proofs.TaskLaws.{tip_home, tip_next}
use Rattle.next_task.proofs.choice.Choice.tip_next.Goals as goal

pub returns-in-Some-clause-next_is : goal.returns-in-Some-clause-next_is
returns-in-Some-clause-next_is c = tip_next c.in-Some.ensures

pub returns-in-None-clause-next_is : goal.returns-in-None-clause-next_is
returns-in-None-clause-next_is c = tip_home c.in-None.ensures
