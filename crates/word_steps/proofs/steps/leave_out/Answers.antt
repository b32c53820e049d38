-- `word_steps::steps::leave_out` meets its contract.
use Rattle.word_steps.proofs.Stepping.{stop_left}
use Rattle.word_steps.proofs.steps.leave_out.Goals as goal

pub returns : goal.returns
returns c = search stop_left
