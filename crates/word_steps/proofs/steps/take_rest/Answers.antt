-- `word_steps::steps::take_rest` meets its contract: at fault, or a rest taken.
use Rattle.std.proofs.lemmas.Result.{err_from_is_err_and}
use Rattle.word_steps.proofs.Stepping.{rest_missed, rest_taken}
use Rattle.word_steps.proofs.steps.take_rest.Goals as goal

pub returns-in_err-trip : goal.returns-in_err-trip
returns-in_err-trip c = let p = err_from_is_err_and c.from_residual.result c.from_residual.ensures.1 in rw (p.1, p.2) (rest_missed _ _ c.in_err-trip.ensures)

pub returns : goal.returns
returns c = rest_taken _ _ _ _ c.in_ok-trip.ensures c.same_tally-tally.ensures c.same_cargo-cargo.ensures
