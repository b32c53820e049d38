-- `trips::limits::LimitedDay::is_over` meets its contract: the limits are the day's.
use Rattle.trips.proofs.limits.LimitedDay.is_over.Goals as goal

pub returns : goal.returns
returns c = c.is_over.ensures _ c.args.self.now.read
