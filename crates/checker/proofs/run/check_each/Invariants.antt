-- `checker::run::check_each` meets its contract: what is left to check after i words is answered as the whole plan is.
use Rattle.plan_parts.specs.Walked.{Reached}
use Rattle.checker.proofs.run.check_each.Given as goal

abbrev pub invariant-loop-i : goal.invariant-loop-i
invariant-loop-i l = Reached l.limited.day.now l.plan l.i l.s l.met
