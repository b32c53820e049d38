-- `onward::fill_behind` meets its contract.
use Rattle.onward.proofs.FillLaws.{Filling}
use Rattle.onward.proofs.fill_behind.Given as goal

abbrev pub invariant-loop-at : goal.invariant-loop-at
invariant-loop-at l = Filling l.day l.plan l.from l.end l.initial.behind l.behind l.at l.o
