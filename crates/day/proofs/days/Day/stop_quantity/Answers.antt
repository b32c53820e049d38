-- `day::days::Day::stop_quantity` meets its contract.
use Rattle.day.proofs.Readers.{stop_quantity_read}
use Rattle.day.proofs.days.Day.stop_quantity.Goals as goal

pub returns : goal.returns
returns c = rw (← c.self.view_is) (search stop_quantity_read)
