-- Step 5's `is_timely` meets its contract.
use Rattle.next_task.proofs.ChoiceLaws.{wait_timely}
use Rattle.next_task.proofs.choice.WaitingSearch.is_timely.Goals as goal

pub returns : goal.returns
returns c = search wait_timely
