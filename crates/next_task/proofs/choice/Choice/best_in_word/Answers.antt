-- `next_task::choice::Choice::best_in_word` meets its contract: each turn goes on to the next candidate, by `word_next`.
use Rattle.next_task.proofs.ChoiceLaws.{word_start, word_over, word_next, word_end}
use Rattle.next_task.proofs.choice.Choice.best_in_word.Goals as goal

pub loop-rest-init : goal.loop-rest-init
loop-rest-init g c = search word_start

pub returns-then-from-eq0-clause-choice : goal.returns-then-from-eq0-clause-choice
returns-then-from-eq0-clause-choice g c = search word_over

pub loop-rest-preserved : goal.loop-rest-preserved
loop-rest-preserved g c = search word_next

pub returns-clause-choice : goal.returns-clause-choice
returns-clause-choice g c = search word_end
