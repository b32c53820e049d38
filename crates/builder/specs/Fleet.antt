-- The vehicles of the greedy plan, written, by what their words say. It serves the contracts of this crate's own functions. Assumes nothing.
use Rattle.std.specs.Prelude.{ℕ, ◌+◌, ◌*◌, ◌≤◌, List, []}
use Rattle.rules.specs.Lists.{unmet}
use Rattle.rules.specs.Fields.{stops}
use Rattle.rules.specs.Build.{greedy_rounds, routed}
use Rattle.marks.specs.declared.Marks.{Marks}
use Rattle.plan_words.specs.Said.{says, Said}
use Rattle.vehicle_writer.specs.Going.{LeftOf}

-- so many words at the front of the part, which was p, say all vehicles; the marks are those of the stops that they leave, and five words
-- for each of these are left
pub record AllWritten (day p part : List ℕ) (m : Marks) (words : ℕ) : Type 0 where
  pub text : Said (says 0 (greedy_rounds day) []) p part words
  pub left_is : LeftOf day (routed day (stops day + 1) []) m
  pub room : words + 5 * unmet (stops day) (routed day (stops day + 1) []) ≤ 5 * stops day
