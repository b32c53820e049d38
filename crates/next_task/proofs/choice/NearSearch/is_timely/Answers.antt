-- Step 3's `is_timely` meets its contract.
use Rattle.next_task.proofs.ChoiceLaws.{near_timely}
use Rattle.next_task.proofs.choice.NearSearch.is_timely.Goals as goal

pub returns : goal.returns
returns c = search near_timely
