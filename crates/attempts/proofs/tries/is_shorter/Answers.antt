-- `attempts::tries::is_shorter` meets its contract.
use native.Mathlib.Omega.{arith}
use Rattle.attempts.proofs.ShorterLaws.{some_one, some_other, one_failed, other_failed, one_longer, both_longer}
use Rattle.attempts.proofs.tries.is_shorter.Goals as goal

pub retry-requires : goal.retry-requires
retry-requires c = let p = c.requires in (p.0, p.1, some_one p.0 p.2, p.3)

pub returns-in_default : goal.returns-in_default
returns-in_default c = λ no rounds h. one_failed h c.in_default.ensures

pub returns-then-trial : goal.returns-then-trial
returns-then-trial c = λ no rounds h. one_longer h c.in-Some.ensures c.if-trial.true no

pub retry-requires-2 : goal.retry-requires-2
retry-requires-2 c = let p = c.requires in (p.0, p.1, some_other p.0 p.2, omega (arith, p.3, c.retry.auto.work))

pub returns-in_default-retry : goal.returns-in_default-retry
returns-in_default-retry c = λ no rounds h. other_failed h c.in_default-retry.ensures

pub returns : goal.returns
returns c = λ no rounds h. both_longer h c.in-Some.ensures c.if-trial.false c.in-Some-retry.ensures c.from.ensures c.from-2.ensures c.from-3.ensures c.from-4.ensures no
