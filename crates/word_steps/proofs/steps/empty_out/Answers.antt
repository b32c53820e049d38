-- `word_steps::steps::empty_out` meets its contract: at fault by the minute, or emptied.
use Rattle.std.proofs.lemmas.Result.{err_from_is_err_and}
use Rattle.word_steps.proofs.Stepping.{tip_missed, tip_emptied}
use Rattle.word_steps.proofs.steps.empty_out.Goals as goal

pub returns-in_err-trip : goal.returns-in_err-trip
returns-in_err-trip c = let p = err_from_is_err_and c.from_residual.result c.from_residual.ensures.1 in rw (p.1, p.2) (tip_missed _ _ _ c.in_err-trip.ensures)

pub returns : goal.returns
returns c = tip_emptied _ _ _ _ _ c.in_ok-trip.ensures c.same_tally-tally.ensures c.tip_out-cargo.ensures
