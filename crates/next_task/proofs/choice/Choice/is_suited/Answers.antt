-- `next_task::choice::Choice::is_suited` meets its contract.
use Rattle.next_task.proofs.ChoiceLaws.{fit_home}
use Rattle.next_task.proofs.choice.Choice.is_suited.Goals as goal

pub returns : goal.returns
returns c = search fit_home
