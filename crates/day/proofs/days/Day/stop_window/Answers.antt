-- `day::days::Day::stop_window` meets its contract.
use Rattle.day.proofs.Readers.{stop_window_read}
use Rattle.day.proofs.days.Day.stop_window.Goals as goal

pub returns : goal.returns
returns c = rw (← c.self.view_is) (search stop_window_read)
