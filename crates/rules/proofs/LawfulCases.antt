-- Vehicles of day M that no lawful plan has, each one step over a limit. Assumes nothing.
use Prim.Native.Nat.{ℕ, ◌+◌, ◌≤◌}
use mathlib.Core.List.{List, [], ◌∷◌}
use native.Mathlib.Omega.{arith}
use Rattle.rules.specs.Fields.{window_index}
use Rattle.rules.specs.Plan.{serve, empty, lunch, stops_on}
use Rattle.rules.specs.Timetable.{visit_to, calls, Meets, Keeps, IsTimetable}
use Rattle.rules.specs.Lawful.{rests_in, Loads, Timed}
use Rattle.rules.proofs.DayM.{legs_m, day_m}

-- S* is 5: no vehicle has six B words
six_stops : Loads (day_m 100 30 60 60 50) (serve 1 ∷ serve 2 ∷ serve 1 ∷ serve 2 ∷ serve 1 ∷ serve 2 ∷ empty 1 ∷ []) → ⊥
unfolding stops_on legs_m day_m
six_stops l = let few : 6 ≤ 5 = l.visits in omega arith

-- "at most one D"
two_rests : Loads (day_m 100 30 60 60 50) (serve 1 ∷ lunch ∷ lunch ∷ empty 1 ∷ []) → ⊥
unfolding rests_in
two_rests l = let one : 2 ≤ 1 = l.rests in omega arith

-- stop 2 is ten minutes from the depot, which opens at 0: where it closes at 9, no timetable meets its window
too_late : (leaves minute : ℕ) → Meets leaves (visit_to (day_m 100 30 60 60 9) 0 3) minute → ⊥
unfolding window_index legs_m day_m
too_late leaves minute v =
    let reached : leaves + 10 ≤ minute = v.reached in
    let closed : minute + 0 ≤ 9 = v.not_closed in
    omega arith

no_timetable : (minutes : List ℕ) → IsTimetable (day_m 100 30 60 60 9) (serve 2 ∷ empty 1 ∷ []) minutes → ⊥
unfolding Keeps calls day_m
no_timetable [] t = t.kept
no_timetable (minute ∷ minutes) t = too_late t.leaves minute t.kept.0

late_stop : Timed (day_m 100 30 60 60 9) (serve 2 ∷ empty 1 ∷ []) → ⊥
late_stop t = no_timetable t.minutes t.kept
