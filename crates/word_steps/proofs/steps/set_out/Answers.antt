-- `word_steps::steps::set_out` meets its contract.
use Rattle.word_steps.proofs.Stepping.{vehicle_leaves}
use Rattle.word_steps.proofs.steps.set_out.Goals as goal

pub returns : goal.returns
returns c = search vehicle_leaves
