-- `attempts::tries::make_trial` meets its contract.
use borrow.Author.Rules.{rules}
use mathlib.Core.Path.{sym}
use native.Mathlib.Omega.{arith}
use lib.Seq.{length-take-le}
use Rattle.attempts.proofs.ShorterLaws.{some_measured}
use Rattle.attempts.proofs.KeptLaws.{trying_made, candidate_fits, made_fails, tried_judged}
use Rattle.attempts.proofs.tries.make_trial.Goals as goal

pub is_shorter-requires : goal.is_shorter-requires
is_shorter-requires c = search (rules, some_measured)

pub write_candidate-requires : goal.write_candidate-requires
write_candidate-requires c =
    let p = c.requires in
    (p.0, p.1, trying_made p.0 p.2.made, omega (arith, p.3, c.is_shorter.auto.work))

pub returns-in_err-words : goal.returns-in_err-words
returns-in_err-words c = λ rounds h. rw c.from_residual.ensures (made_fails h c.in_err-words.ensures)

pub slice_bounds-judge_candidate-end : goal.slice_bounds-judge_candidate-end
slice_bounds-judge_candidate-end c = candidate_fits c.requires.2 c.in_ok-words.ensures

pub slice_bounds-judge_candidate-end-2 : goal.slice_bounds-judge_candidate-end-2
slice_bounds-judge_candidate-end-2 c = sym (length-take-le _ _ (candidate_fits c.requires.2 c.in_ok-words.ensures))

pub returns : goal.returns
returns c = λ rounds h. tried_judged c.requires.0 h c.in_ok-words.ensures _ c.judge_candidate.ensures
