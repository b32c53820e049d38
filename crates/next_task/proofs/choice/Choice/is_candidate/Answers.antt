-- `next_task::choice::Choice::is_candidate` meets its contract.
use native.Mathlib.Omega.{arith}
use Rattle.laws.specs.Marks.{up_to}
use Rattle.next_task.specs.Wanted.{candidate}
use Rattle.next_task.proofs.choice.Choice.is_candidate.Goals as goal

pub returns-then-fits : goal.returns-then-fits
unfolding candidate up_to
returns-then-fits g c = grind arith

pub returns-else-fits : goal.returns-else-fits
unfolding candidate up_to
returns-else-fits g c = grind arith
