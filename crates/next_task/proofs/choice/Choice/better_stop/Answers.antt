-- `next_task::choice::Choice::better_stop` meets its contract: it leaves a way home, or not.
use mathlib.Core.Path.{refl}
use Rattle.next_task.proofs.ChoiceLaws.{timely_soon, not_suited, is_suited}
use Rattle.next_task.proofs.choice.Choice.better_stop.Goals as goal

pub is_suited-requires-clause-in_time : goal.is_suited-requires-clause-in_time
is_suited-requires-clause-in_time g c = timely_soon _ _ _ _ refl c.requires.is.in_time

pub returns-then-is_suited-clause-choice : goal.returns-then-is_suited-clause-choice
returns-then-is_suited-clause-choice g c = search is_suited

pub returns-clause-choice : goal.returns-clause-choice
returns-clause-choice g c = search not_suited
