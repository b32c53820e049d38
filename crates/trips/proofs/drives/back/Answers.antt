-- `trips::drives::back` meets its contract: too late, too late without a rest, or home.
use Rattle.trips.proofs.DriveLaws.{back_late, back_unrested, back_kept}
use Rattle.trips.proofs.drives.back.Goals as goal

pub returns-then-depot_window-minute : goal.returns-then-depot_window-minute
returns-then-depot_window-minute c = search back_late

pub returns-then-is_unrested : goal.returns-then-is_unrested
returns-then-is_unrested c = search back_unrested

pub returns : goal.returns
returns c = search back_kept
