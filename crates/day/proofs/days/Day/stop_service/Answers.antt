-- `day::days::Day::stop_service` meets its contract.
use Rattle.day.proofs.Readers.{stop_service_read}
use Rattle.day.proofs.days.Day.stop_service.Goals as goal

pub returns : goal.returns
returns c = rw (← c.self.view_is) (search stop_service_read)
