-- The greedy plan of an accepted day is lawful, by what the check says of plans: it has document 01's form, and each vehicle is clear.
-- Assumes nothing.
use Prim.Native.Nat.{ℕ, ◌+◌}
use mathlib.Core.Path.{◌≡◌, refl}
use mathlib.Core.List.{List, []}
use native.Mathlib.Omega.{arith}
use Rattle.rules.specs.Answers.{given}
use Rattle.rules.specs.Lists.{Every}
use Rattle.rules.specs.Fields.{stops, IsAccepted}
use Rattle.rules.specs.Plan.{Formed}
use Rattle.rules.specs.Lawful.{Loads, Timed, Lawful, totals}
use Rattle.rules.specs.Check.{check_plan}
use Rattle.rules.specs.Build.{greedy_rounds, greedy_lefts, greedy_plan}
use Rattle.laws.proofs.Fresh.{every_weaker}
use Rattle.day.proofs.Ranges.{accepted_ranges}
use Rattle.plan_laws.specs.Vehicles.{Clear}
use Rattle.plan_laws.proofs.Theorems.{clear_loads, clear_timed, lawful_totals}
use Rattle.greedy_laws.proofs.Fleets.{fleet_every}
use Rattle.greedy_laws.proofs.GreedyForm.{greedy_known, greedy_busy, greedy_rising, greedy_once, greedy_others}
use Rattle.greedy_laws.proofs.GreedyRoom.{greedy_room}
use Rattle.greedy_laws.proofs.OnTheRoad.{vehicle_clear}

module _ (day : List ℕ) (a : IsAccepted day) where
  -- no vehicle meets a fault
  pub greedy_clear : Every (Clear day) (greedy_rounds day)
  greedy_clear = fleet_every day (Clear day) (λ before l. vehicle_clear day before a l) (stops day + 1) []

  -- the plan has the form
  pub greedy_formed : Formed day (greedy_plan day) (greedy_rounds day) (greedy_lefts day)
  unfolding greedy_plan
  greedy_formed =
      record {
        short = omega (arith, greedy_room day, (accepted_ranges day a).stops_most);
        text = refl;
        known = greedy_known day;
        busy = greedy_busy day;
        rising = greedy_rising day;
        once = greedy_once day;
        others = greedy_others day;
      }

  -- it is lawful, and the check answers it with its distance, its vehicles and its stops served
  pub greedy_lawful : Lawful day (greedy_plan day)
  greedy_lawful =
      record {
        rounds = greedy_rounds day;
        lefts = greedy_lefts day;
        formed = greedy_formed;
        loads = every_weaker (Clear day) (Loads day) (clear_loads day) (greedy_rounds day) greedy_clear;
        timed = every_weaker (Clear day) (Timed day) (clear_timed day) (greedy_rounds day) greedy_clear;
      }

  pub greedy_answer : check_plan day (greedy_plan day) ≡ given (totals day (greedy_rounds day))
  unfolding greedy_lawful
  greedy_answer = lawful_totals day (greedy_plan day) a greedy_lawful
