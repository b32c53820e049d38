-- `trial_list::pairs::PairPlace::is_inside` meets its contract.
use native.Mathlib.Omega.{arith}
use borrow.Author.Tests.{leb-false}
use Rattle.trial_list.proofs.PairRests.{pairs_over}
use Rattle.trial_list.proofs.pairs.PairPlacePlace.is_inside.Goals as goal

pub returns-clause-over : goal.returns-clause-over
returns-clause-over c e s = pairs_over s.day _ s.rounds c.args.self (omega (arith, s.stops_is, leb-false _ _ e))
