-- A vehicle while it is walked again and its words are written, as the code has it. It serves the contracts of this crate's own functions.
-- Assumes nothing.
use Rattle.std.specs.Prelude.{ℕ, ◌+◌, ◌*◌, ◌≤◌, ◌<◌, ◌≡◌, List, [], ◌∷◌, ◌++◌, map, length, Option, Some, None}
use Rattle.std.proofs.Math.Option as maybe
use Rattle.std.proofs.Math.Option.{none, some}
use Rattle.rules.specs.Fields.{places}
use Rattle.rules.specs.PlanWords.{vehicle_word}
use Rattle.rules.specs.Plan.{Round, task_word, stops_on}
use Rattle.rules.specs.Build.{Truck}
use Rattle.laws.specs.Buffer.{Wrote}
use Rattle.trips.specs.Trips.{SmallTrip}
use Rattle.greedy_laws.specs.Rooms.{Paid}
use Rattle.walks.specs.declared.cabs.Cab.{Cab}

-- the numbers of a vehicle are small, by the tasks that it has done, and its stops are counted
pub record Able (day : List ℕ) (v : Truck) : Type 0 where
  pub place : v.trip.place < places day
  pub minute : v.trip.minute ≤ 8192 * (1 + length v.tasks)
  pub distance : v.trip.distance ≤ 65535 * length v.tasks
  pub load : v.cargo.load ≤ 131072 * length v.tasks
  pub paid : Paid v
  pub served : length (stops_on v.tasks) ≡ v.cargo.visits

-- the vehicle v is on its way, as the code carries it; of most stops it may still serve more
pub record Riding (day : List ℕ) (most more : ℕ) (v : Truck) (c : Cab) : Type 0 where
  pub trip_is : c.trip ≡ v.trip
  pub load_is : c.load ≡ v.cargo.load
  pub able : Able day v
  pub few : v.cargo.visits + more ≤ most
  pub limit : most ≤ 240

-- where a walk starts: the number of the vehicle, and what it has done before
pub record Start : Type 0 where
  pub number : ℕ
  pub done : Round

-- at the depot
abbrev pub at_depot : ℕ → Start
at_depot number = record { number = number; done = [] }

-- and what it has done since its start stands at the front of the part, which was p
pub record Standing (day : List ℕ) (start : Start) (most more : ℕ) (p part : List ℕ) (v : Truck) (c : Cab) : Type 0 where
  pub riding : Riding day most more v c
  pub since : Round
  pub tasks : v.tasks ≡ start.done ++ since
  pub text : Wrote (vehicle_word start.number ∷ map task_word since) p part c.at
  pub room : 3 + 2 * most ≤ length p

-- so it is, or the trial has failed
pub data Stands (day : List ℕ) (start : Start) (most more : ℕ) (p part : List ℕ) : maybe.Option Truck → Option Cab → Type 0 where
  failed : length part ≡ length p → Stands day start most more p part none None
  on_road : (v : Truck) (c : Cab) → Standing day start most more p part v c → Stands day start most more p part (some v) (Some c)

-- how many words there are, and that there is room for one more
pub record Space (part : List ℕ) (at : ℕ) : Type 0 where
  pub inside : at < length part
  pub few : at ≤ 482

-- there is such a vehicle, and it may serve so many stops at least; what it carries is small
pub record SomeStanding (day : List ℕ) (least : ℕ) (part : List ℕ) (c : Cab) : Type 0 where
  pub start : Start
  pub most : ℕ
  pub more : ℕ
  pub p : List ℕ
  pub v : Truck
  pub enough : least ≤ more
  pub standing : Standing day start most more p part v c
  pub space : Space part c.at
  pub trip : SmallTrip day 2147483648 c.trip
  pub load : c.load < 134217728

-- each vehicle that stood so now stands as f says, having served so many stops
abbrev pub Drives : List ℕ → ℕ → List ℕ → Cab → (Truck → maybe.Option Truck) → List ℕ → Option Cab → Type 0
Drives day serves part c f now r =
    (start : Start) (most more : ℕ) (p : List ℕ) (v : Truck) → Standing day start most (serves + more) p part v c → Stands day start most more p now (f v) r
