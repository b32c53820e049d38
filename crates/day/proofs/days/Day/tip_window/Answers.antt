-- `day::days::Day::tip_window` meets its contract.
use Rattle.std.proofs.Common.{◌≤◌}
use Rattle.day.proofs.Readers.{tip_window_read}
use Rattle.day.proofs.days.Day.tip_window.Goals as goal

pub returns : goal.returns
returns c =
    let within : c.args.tip ≤ c.self.inside.layout.tips = rw (c.self.invariant.tips_are, c.self.view_is) c.requires.1 in
    rw (← c.self.view_is) (search tip_window_read)
