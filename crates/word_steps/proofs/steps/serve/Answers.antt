-- `word_steps::steps::serve` meets its contract: over a limit, at fault by the minute, or served.
use Rattle.std.proofs.lemmas.Result.{err_from_is_err_and}
use Rattle.word_steps.proofs.Stepping.{stop_over, stop_missed, stop_served}
use Rattle.word_steps.proofs.steps.serve.Goals as goal

pub returns-then-is_over : goal.returns-then-is_over
returns-then-is_over c = search stop_over

pub returns-in_err-trip : goal.returns-in_err-trip
returns-in_err-trip c =
    let d = c.in_err-trip.ensures in
    let p = err_from_is_err_and c.from_residual.result c.from_residual.ensures.1 in
    rw (p.1, p.2) (search stop_missed)

pub returns : goal.returns
returns c = let d = c.in_ok-trip.ensures in search stop_served
