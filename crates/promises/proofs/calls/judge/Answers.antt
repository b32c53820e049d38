-- `promises::calls::judge` meets its contract.
use Rattle.promises.proofs.DemandOne.{judge_answers}
use Rattle.promises.proofs.calls.judge.Goals as goal

pub returns-clause-numbers : goal.returns-clause-numbers
returns-clause-numbers c = search judge_answers
