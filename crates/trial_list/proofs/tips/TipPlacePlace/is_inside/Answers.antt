-- `trial_list::tips::TipPlace::is_inside` meets its contract.
use native.Mathlib.Omega.{arith}
use borrow.Author.Tests.{ltb-true, ltb-false}
use Rattle.trial_list.proofs.TipRests.{its_vehicle, tips_over}
use Rattle.trial_list.proofs.tips.TipPlacePlace.is_inside.Goals as goal

pub returns-clause-inside : goal.returns-clause-inside
returns-clause-inside c e =
    let within = ltb-true _ _ e in
    record {
      tables = c.requires.0;
      within = within;
      vehicle = its_vehicle c.args.listing.now c.requires.0 within;
      fits = c.requires.1 within;
    }

pub returns-clause-over : goal.returns-clause-over
returns-clause-over c e s = tips_over s.day s.rounds c.args.self (omega (arith, s.surveyed.counted, ltb-false _ _ e))
