-- The greedy plan, as document 01's build defines it: what whoever plans a day is owed. Assumes nothing.
use Prim.Native.Nat.{ℕ, ◌+◌, ◌*◌, ◌≤◌, ◌<◌}
use mathlib.Core.Path.{◌≡◌}
use mathlib.Core.Bool.{false}
use mathlib.Core.List.{List, [], Memᴰ}
use native.Mathlib.Omega.{arith}
use lib.ListN.{length}
use Rattle.rules.specs.Answers.{given}
use Rattle.rules.specs.Lists.{total}
use Rattle.rules.specs.Fields.{stops, IsAccepted}
use Rattle.rules.specs.Plan.{stops_on_all}
use Rattle.rules.specs.Lawful.{Lawful, totals}
use Rattle.rules.specs.Check.{check_plan}
use Rattle.rules.specs.Home.{nearest_tip}
use Rattle.rules.specs.Build.{Truck, resting, fleet, greedy_rounds, greedy_lefts, greedy_plan, could_take_first}
use Rattle.laws.proofs.Fresh.{unmet_most, every_mem}
use Rattle.greedy_laws.specs.Reached.{Reached}
use Rattle.greedy_laws.specs.Rooms.{empties_in}
use Rattle.greedy_laws.proofs.Fleets.{fleet_more}
use Rattle.greedy_laws.proofs.GreedyLawful.{greedy_lawful, greedy_answer}
use Rattle.greedy_laws.proofs.GreedyRoom.{greedy_room, greedy_tips}
use Rattle.greedy_laws.proofs.LeftOut.{left_out_justified}
use Rattle.greedy_laws.proofs.OnTheRoad.{tip_exists}

-- the greedy plan of an accepted day is lawful
pub plan_is_lawful : (day : List ℕ) → IsAccepted day → Lawful day (greedy_plan day)
plan_is_lawful day accepted = greedy_lawful day accepted

-- the check answers it with its distance, its vehicles and its stops served
pub plan_is_answered : (day : List ℕ) → IsAccepted day → check_plan day (greedy_plan day) ≡ given (totals day (greedy_rounds day))
plan_is_answered day accepted = greedy_answer day accepted

-- it has at most five words for each stop
pub plan_has_room : (day : List ℕ) → length (greedy_plan day) ≤ 5 * stops day
plan_has_room day = greedy_room day

-- and no more C words than B words
pub tips_at_most_stops : (day : List ℕ) → total empties_in (greedy_rounds day) ≤ length (stops_on_all (greedy_rounds day))
tips_at_most_stops day = greedy_tips day

-- a stop left out is one that no fresh vehicle could take first
pub left_out_with_reason : (day : List ℕ) (k : ℕ) → Memᴰ k (greedy_lefts day) → could_take_first day k ≡ false
left_out_with_reason day k = every_mem (λ j. could_take_first day j ≡ false) (greedy_lefts day) k (left_out_justified day)

-- n(r,T) exists wherever the build asks for it: a vehicle on its way with a load, after the rest, has an open tip
pub tip_is_there : (day before : List ℕ) → IsAccepted day → (v : Truck) → Reached day before v → 0 < (resting day v).cargo.load
    → 0 < nearest_tip day (resting day v).trip.place (resting day v).trip.minute
tip_is_there day before accepted v reached loaded = tip_exists day accepted before v reached loaded

-- the number that the definition counts down leaves no vehicle out: a larger one gives the same vehicles
pub more_vehicles_same : (day : List ℕ) (more : ℕ) → stops day + 1 ≤ more → fleet day more [] ≡ greedy_rounds day
more_vehicles_same day more h = fleet_more day (stops day + 1) more [] (omega (arith, unmet_most (stops day) [])) h
