-- `next_task::choice::Choice::from_candidate` meets its contract: each turn passes the lowest bit that is left, by `passed_next`.
use Rattle.rules.specs.Fields.{stops}
use Rattle.next_task.proofs.ChoiceLaws.{Passed}
use Rattle.next_task.proofs.choice.Choice.from_candidate.Given as goal

abbrev pub invariant-loop-rest : goal.invariant-loop-rest
invariant-loop-rest g l =
    Passed g.S.Search.near l.self.day.now l.self.trip l.self.cargo (stops l.self.day.now) l.most l.first l.marked l.rest

abbrev pub decreases-loop-rest : goal.decreases-loop-rest
decreases-loop-rest g l = l.rest
