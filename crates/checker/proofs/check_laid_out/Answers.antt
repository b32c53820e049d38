-- `checker::check_laid_out` meets its contract: the test is that of the definition.
use Rattle.rules.specs.Check.{check_words}
use Rattle.laws.proofs.Tests.{branches}
use Rattle.checker.proofs.check_laid_out.Goals as goal

pub returns-then-plan-gt4096 : goal.returns-then-plan-gt4096
unfolding check_words
returns-then-plan-gt4096 c = search branches

pub returns : goal.returns
unfolding check_words
returns c = search branches
