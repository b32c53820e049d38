-- `day_faults::parts::check_tips` meets its contract: the answer from the tips on is that from the next tip on.
use Rattle.std.proofs.Common.{◌≡◌, ◌+◌, ◌*◌}
use Rattle.day_faults.specs.Judging.{judged_from}
use Rattle.day_faults.proofs.parts.check_tips.Given as goal

abbrev pub invariant-loop-tip : goal.invariant-loop-tip
invariant-loop-tip l = judged_from l.day.tips l.day.stops l.day.words.now 7 ≡ judged_from l.day.tips l.day.stops l.day.words.now (7 + 2 * l.tip)
