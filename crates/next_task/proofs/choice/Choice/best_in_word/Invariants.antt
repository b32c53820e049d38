-- `next_task::choice::Choice::best_in_word` meets its contract: each turn goes on to the next candidate, by `word_next`.
use Rattle.rules.specs.Fields.{stops}
use Rattle.next_task.proofs.ChoiceLaws.{Walked}
use Rattle.next_task.proofs.choice.Choice.best_in_word.Given as goal

abbrev pub invariant-loop-rest : goal.invariant-loop-rest
invariant-loop-rest g l =
    Walked g.S.Search.near l.self.day.now l.self.trip l.self.cargo (stops l.self.day.now) l.word l.first l.initial.best.number l.rest l.best

abbrev pub decreases-loop-rest : goal.decreases-loop-rest
decreases-loop-rest g l = l.rest
