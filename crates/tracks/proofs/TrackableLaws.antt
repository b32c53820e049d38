-- The plans that trials work on have tables: each of their vehicles has room.
-- Assumes nothing.
use Prim.Native.Nat.{ℕ, zero, suc, ◌*◌, ◌≤◌, ◌<◌}
use mathlib.Core.Path.{◌≡◌, ap}
use mathlib.Core.List.{List, [], ◌∷◌}
use native.Mathlib.Omega.{arith}
use lib.ListN.{length, length-append, get_or}
use Rattle.rules.specs.Fields.{stops, IsAccepted}
use Rattle.rules.specs.Plan.{Round, plan_words, stops_on, stops_on_all}
use Rattle.rules.specs.Build.{greedy_lefts}
use Rattle.day.proofs.Ranges.{accepted_ranges}
use Rattle.laws.proofs.Lists.{every_at}
use Rattle.trial_list.specs.Shapes.{Shaped}
use Rattle.trial_list.specs.Survey.{Surveyed}
use Rattle.trial_list.proofs.Shapes.{shaped_few, shaped_length, shaped_stops}
use Rattle.tracks.specs.Tables.{Trackable, SomeTrackable}

-- the stops of one vehicle are among those of all
vehicle_stops : (rounds : List Round) (v : ℕ) → v < length rounds → length (stops_on (get_or rounds v [])) ≤ length (stops_on_all rounds)
unfolding stops_on_all
vehicle_stops [] v l = absurd (omega arith)
vehicle_stops (tasks ∷ rounds) zero l = omega (arith, length-append (stops_on tasks) (stops_on_all rounds))
vehicle_stops (tasks ∷ rounds) (suc v) l = omega (arith, vehicle_stops rounds v (omega arith), length-append (stops_on tasks) (stops_on_all rounds))

module _ {day plan starts vehicles distances : List ℕ} {count room : ℕ} {rounds : List Round} (accepted : IsAccepted day) (shaped : Shaped day rounds)
    (surveyed : Surveyed day rounds starts vehicles distances count) (text : plan ≡ plan_words rounds (greedy_lefts day)) (enough : 5 * stops day ≤ room) where
  -- the vehicles of a plan whose starts are known
  pub shaped_trackable : Trackable day plan starts room rounds (greedy_lefts day)
  shaped_trackable =
      let most = (accepted_ranges day accepted).stops_most in
      record {
        laid = record { text = text; starting = surveyed.starting };
        known = shaped.known;
        few = omega (arith, shaped_few day rounds shaped, most);
        short = omega (arith, ap length text, shaped_length day rounds shaped, most);
        fits = λ v l.
            let busy = every_at (λ tasks. 0 < length (stops_on tasks)) rounds v [] shaped.busy l in
            let part = vehicle_stops rounds v l in
            record { few = omega (arith, part, shaped_stops day rounds shaped, most); words = omega (arith, busy, part, shaped_stops day rounds shaped) };
      }

  -- there are such vehicles
  pub some_trackable : SomeTrackable day plan starts room count
  some_trackable = record { rounds = rounds; lefts = greedy_lefts day; trackable = shaped_trackable; counted = surveyed.counted }
