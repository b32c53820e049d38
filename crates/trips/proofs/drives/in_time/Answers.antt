-- `trips::drives::in_time` meets its contract: too late, or served and away.
use Rattle.trips.proofs.DriveLaws.{visit_late, visit_kept}
use Rattle.trips.proofs.drives.in_time.Goals as goal

pub returns-then-is_late : goal.returns-then-is_late
returns-then-is_late c = search visit_late

pub returns : goal.returns
returns c = search visit_kept
