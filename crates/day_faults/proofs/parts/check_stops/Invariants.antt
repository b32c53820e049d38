-- `day_faults::parts::check_stops` meets its contract: the answer from the stops on is that from the next stop on.
use Rattle.std.proofs.Common.{◌≡◌, ◌+◌, ◌*◌}
use Rattle.rules.specs.DayFile.{tips_end}
use Rattle.day_faults.specs.Judging.{judged_from}
use Rattle.day_faults.proofs.parts.check_stops.Given as goal

abbrev pub invariant-loop-stop : goal.invariant-loop-stop
invariant-loop-stop l =
    judged_from l.day.tips l.day.stops l.day.words.now (tips_end l.day.tips) ≡ judged_from l.day.tips l.day.stops l.day.words.now (tips_end l.day.tips + 3 * l.stop)
