-- `trials::search::step_on` meets its contract.
use native.Mathlib.Omega.{arith}
use Rattle.search_steps.proofs.SearchSteps.{trial_names}
use Rattle.trials.proofs.TrialSteps.{some_made, after_made}
use Rattle.trials.proofs.search.step_on.Goals as goal

pub slice_bounds-make_trial-end : goal.slice_bounds-make_trial-end
slice_bounds-make_trial-end c = c.requires.listed.0.held.plan_at.fits

pub make_trial-tried-requires : goal.make_trial-tried-requires
make_trial-tried-requires c = let p = c.requires.buffers in
    let h = c.requires.listed.0 in
    (p.0, (trial_names p.0 h).known, some_made c.args.trial p.0 h, p.2)

pub after_trial-requires : goal.after_trial-requires
after_trial-requires c = let tried = c.make_trial-tried in
    let p = c.requires.buffers in
    let h = c.requires.listed.0 in
    record { buffers = (p.0, p.1, omega (arith, p.2, tried.auto.work)); made = (after_made c.args.trial p.0 h _ tried.ensures, c.requires.listed.1) }
