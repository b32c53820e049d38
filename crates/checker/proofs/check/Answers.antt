-- `checker::check` meets its contract: a refused day is answered as it was judged, an accepted day is laid out and its plan is walked.
use mathlib.Core.Path.{◌∙◌}
use Rattle.checker.proofs.Answering.{day_refused, day_accepted}
use Rattle.checker.proofs.check.Goals as goal

pub returns-in-Ok : goal.returns-in-Ok
returns-in-Ok c =
    let laid = rw c.in-Ok.is at c.lay_out.ensures in
    day_accepted _ _ laid.1 laid.0 _ c.check_laid_out.ensures

pub returns-in-Err : goal.returns-in-Err
returns-in-Err c = c.into.ensures ∙ day_refused _ _ (rw c.in-Err.is at c.lay_out.ensures)
