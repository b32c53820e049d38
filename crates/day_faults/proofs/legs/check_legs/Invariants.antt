-- `day_faults::legs::check_legs` meets its contract: the answer from the legs on is that from the next row on.
use Rattle.std.proofs.Common.{◌≡◌}
use Rattle.rules.specs.DayFile.{legs_at}
use Rattle.day_faults.specs.Judging.{judged_from, row_at}
use Rattle.day_faults.proofs.legs.check_legs.Given as goal

abbrev pub invariant-loop-from : goal.invariant-loop-from
invariant-loop-from l =
    judged_from l.day.tips l.day.stops l.day.words.now (legs_at l.day.tips l.day.stops) ≡ judged_from l.day.tips l.day.stops l.day.words.now (row_at l.day.tips l.day.stops l.from)
