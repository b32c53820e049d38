-- A vehicle does its round without a fault exactly where its loads and counts are within the limits and it has a timetable. The day may
-- be any list of words.
-- Assumes nothing.
use Prim.Native.Nat.{ℕ}
use mathlib.Core.List.{List}
use native.Mathlib.Omega.{arith}
use Rattle.rules.specs.Plan.{Round}
use Rattle.rules.specs.Lawful.{Loads, Timed}
use Rattle.rules.specs.Cargo as Carried
use Rattle.rules.specs.Trip.{leaving}
use Rattle.plan_laws.specs.Vehicles.{Clear}
use Rattle.plan_laws.proofs.EarliestLaws.{timed_iff}
use Rattle.plan_laws.proofs.Loads.{cargo_loads, loads_cargo}
use Rattle.plan_laws.proofs.Timetables.{trip_iff}

-- a clear vehicle's loads and counts
pub clear_loads : (day : List ℕ) (tasks : Round) → Clear day tasks → Loads day tasks
clear_loads day tasks c =
    let l = cargo_loads day Carried.empty tasks (omega arith) c.cargo in
    let once = ((trip_iff day (leaving day) tasks).0 c.trip).1 in
    record { load = l.load; kg = omega arith; visits = omega arith; rests = omega arith }

-- a clear vehicle's timetable: its earliest minutes
pub clear_timed : (day : List ℕ) (tasks : Round) → Clear day tasks → Timed day tasks
clear_timed day tasks c = (timed_iff day tasks).1 ((trip_iff day (leaving day) tasks).0 c.trip).0

-- a vehicle within its limits that has a timetable is clear
pub timed_clear : (day : List ℕ) (tasks : Round) → Loads day tasks → Timed day tasks → Clear day tasks
timed_clear day tasks l t =
    record {
      cargo = loads_cargo day Carried.empty tasks (record { load = l.load; kg = omega arith; visits = omega arith });
      trip = (trip_iff day (leaving day) tasks).1 ((timed_iff day tasks).0 t, omega arith);
    }
