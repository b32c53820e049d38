-- `day::days::Day::tip_service` meets its contract.
use Rattle.std.proofs.Common.{◌≤◌}
use Rattle.day.proofs.Readers.{tip_service_read}
use Rattle.day.proofs.days.Day.tip_service.Goals as goal

pub returns : goal.returns
returns c =
    let within : c.args.tip ≤ c.self.inside.layout.tips = rw (c.self.invariant.tips_are, c.self.view_is) c.requires.1 in
    rw (← c.self.view_is) (search tip_service_read)
