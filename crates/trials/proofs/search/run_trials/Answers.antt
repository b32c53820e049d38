-- `trials::search::run_trials` meets its contract.
use borrow.Author.Rules.{rules}
use mathlib.Core.Path.{refl}
use Rattle.search_steps.proofs.SearchSteps.{is_on, is_off}
use Rattle.trials.proofs.search.run_trials.Goals as goal

pub loop-work-init : goal.loop-work-init
loop-work-init c = (c.begin-s.ensures _ _ c.args.set.now.fit.some, refl, refl)

pub next_step-s-requires-clause-searching : goal.next_step-s-requires-clause-searching
next_step-s-requires-clause-searching c = (c.loop-work.invariant.0, is_on (search rules))

pub loop-work-preserved : goal.loop-work-preserved
loop-work-preserved c = (c.next_step-s.ensures.0, search rules, search rules)

pub returns : goal.returns
returns c = (c.loop-work.invariant.0, is_off (search rules))
