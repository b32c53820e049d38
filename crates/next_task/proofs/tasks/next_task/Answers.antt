-- `next_task::tasks::next_task` meets its contract.
use native.Mathlib.Omega.{arith}
use Rattle.next_task.proofs.TaskLaws.{next_stop_lem, next_tip, next_wait}
use Rattle.next_task.proofs.tasks.next_task.Goals as goal

pub returns-in-Some-clause-next_is : goal.returns-in-Some-clause-next_is
returns-in-Some-clause-next_is c = next_stop_lem _ _ _ _ c.in-Some.ensures

pub returns-in-None-clause-next_is : goal.returns-in-None-clause-next_is
returns-in-None-clause-next_is c = next_tip _ _ _ _ c.in-None.ensures (omega arith) c.tip_next.ensures.next_is

pub returns-in-None-2-clause-next_is : goal.returns-in-None-2-clause-next_is
returns-in-None-2-clause-next_is c = next_wait _ _ _ _ c.in-None.ensures (omega arith) c.wait_next.ensures.next_is
