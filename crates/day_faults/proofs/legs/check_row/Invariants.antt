-- `day_faults::legs::check_row` meets its contract: the answer from the row's start on is that from the next leg on.
use Rattle.std.proofs.Common.{◌≡◌, ◌+◌}
use Rattle.day_faults.specs.Judging.{judged_from, row_at}
use Rattle.day_faults.proofs.legs.check_row.Given as goal

abbrev pub invariant-loop-to : goal.invariant-loop-to
invariant-loop-to l =
    judged_from l.day.tips l.day.stops l.day.words.now (row_at l.day.tips l.day.stops l.from) ≡ judged_from l.day.tips l.day.stops l.day.words.now (row_at l.day.tips l.day.stops l.from + l.to)
