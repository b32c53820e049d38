-- `word_steps::steps::come_back` meets its contract: with load, at fault by the minute, or back.
use Rattle.std.proofs.lemmas.Result.{err_from_is_err_and}
use Rattle.word_steps.proofs.Stepping.{back_loaded, back_missed, back_home, home_fits}
use Rattle.word_steps.proofs.steps.come_back.Goals as goal

pub returns-then-s-gt0 : goal.returns-then-s-gt0
returns-then-s-gt0 c = search back_loaded

pub returns-in_err-trip : goal.returns-in_err-trip
returns-in_err-trip c = let p = err_from_is_err_and c.from_residual.result c.from_residual.ensures.1 in rw (p.1, p.2) (back_missed _ _ c.if-s-gt0.false c.in_err-trip.ensures)

pub one_back-tally-requires : goal.one_back-tally-requires
one_back-tally-requires c = home_fits _ _ c.if-s-gt0.false c.in_ok-trip.ensures c.requires.0 c.requires.1

pub returns : goal.returns
returns c = back_home _ _ c.if-s-gt0.false c.in_ok-trip.ensures _ _ c.one_back-tally.ensures c.same_cargo-cargo.ensures
