-- `day::days::Day::depot_window` meets its contract.
use Rattle.day.proofs.Readers.{depot_read}
use Rattle.day.proofs.days.Day.depot_window.Goals as goal

pub returns : goal.returns
returns c = rw (← c.self.view_is) (search depot_read)
