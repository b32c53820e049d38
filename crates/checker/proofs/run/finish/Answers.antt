-- `checker::run::finish` meets its contract: the tests are those of the definition, in its order.
use Rattle.laws.proofs.Tests.{branches}
use Rattle.plan_parts.specs.Walked.{end_of}
use Rattle.checker.proofs.run.finish.Goals as goal

pub returns-then-y : goal.returns-then-y
unfolding end_of
returns-then-y c = search branches

pub returns-then-y-stops : goal.returns-then-y-stops
unfolding end_of
returns-then-y-stops c = search branches

pub returns : goal.returns
unfolding end_of
returns c = search branches
