-- `trips::drives::rest` meets its contract: a second rest, too late, or taken.
use Rattle.trips.proofs.DriveLaws.{rest_again, rest_late, rest_kept}
use Rattle.trips.proofs.drives.rest.Goals as goal

pub returns-then-trip : goal.returns-then-trip
returns-then-trip c = search rest_again

pub returns-then-hours-start : goal.returns-then-hours-start
returns-then-hours-start c = search rest_late

pub returns : goal.returns
returns c = search rest_kept
