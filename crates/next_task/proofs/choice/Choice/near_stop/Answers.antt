-- `next_task::choice::Choice::near_stop` meets its contract.
use Rattle.next_task.proofs.TaskLaws.{near_none, near_dropped, near_kept}
use Rattle.next_task.proofs.choice.Choice.near_stop.Goals as goal

pub returns-in_err-stop : goal.returns-in_err-stop
returns-in_err-stop c = rw c.from_residual.ensures (near_none _ _ _ _ c.in_err-stop.ensures)

pub returns-then-is_dropped : goal.returns-then-is_dropped
returns-then-is_dropped c = near_dropped _ _ _ _ c.in_ok-stop.ensures c.is_dropped.ensures c.if-is_dropped.true

pub returns : goal.returns
returns c = near_kept _ _ _ _ c.in_ok-stop.ensures c.is_dropped.ensures c.if-is_dropped.false
