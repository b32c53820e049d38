-- What is said of a part of a day once it was looked at. Assumes nothing.
use Rattle.std.specs.Prelude.{ℕ, ◌≡◌, Result}
use Rattle.day_faults.specs.Judging.{judged_from, judged_after}
use Rattle.day_faults.specs.declared.faults.Fault.{Fault}
use Rattle.day_faults.specs.declared.sizes.SizedDay.{SizedDay}

-- the answer from a part's beginning on is the fault found in it, or that on the words from its end on
abbrev pub PartJudged : (day : SizedDay) (from end : ℕ) (found : Result (Unit {0}) Fault) → Type 0
PartJudged day from end found =
    judged_from day.tips day.stops day.words.now from ≡ judged_after day.tips day.stops day.words.now end found
