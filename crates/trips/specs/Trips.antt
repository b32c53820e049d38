-- What a word does to the counts, a drive, and how large each can get. It serves the contracts of this crate's own functions; no definition
-- of the check rests on it. Assumes nothing.
use Rattle.std.specs.Prelude.{ℕ, ◌+◌, ◌*◌, ◌<◌, ◌≤◌, ◌≡◌, false, List}
use Rattle.rules.specs.Fields.{places, load_limit, day_limit, stop_limit}
use Rattle.rules.specs.declared.walk.Cargo.{Cargo}
use Rattle.rules.specs.declared.walk.Tally.{Tally}
use Rattle.rules.specs.declared.walk.Trip.{Trip}
use Rattle.trips.specs.declared.cargo.Limits.{Limits}

-- the trip that stands where there is none
abbrev pub no_trip : Trip
no_trip = record { minute = 0; place = 0; rested = false; distance = 0 }

-- what a vehicle carries is small
pub record CargoWithin (c : Cargo) : Type 0 where
  pub load : c.load < 134217728
  pub kg : c.kg < 134217728
  pub visits : c.visits < 134217728

-- a trip is at a place of the day, at a small minute, and its distance is below a number: 4294901760 where one leg more has to fit into
-- 32 bits; 2147483648 of a vehicle on its way, whose next task is looked at with the tip behind it, which is two legs
pub record SmallTrip (day : List ℕ) (most : ℕ) (t : Trip) : Type 0 where
  pub place : t.place < places day
  pub minute : t.minute < 268435456
  pub distance : t.distance < most

-- and after so many words, or tasks: each of them adds one leg at most
abbrev pub TripWithin : List ℕ → ℕ → Trip → Type 0
TripWithin day i = SmallTrip day (65535 * i + 1)

-- the counts after so many words
pub record TallyWithin (i : ℕ) (y : Tally) : Type 0 where
  pub vehicles : y.vehicles ≤ i
  pub served : y.served ≤ i
  pub left : y.left ≤ i
  pub distance : y.distance ≤ 65535 * i

-- the limits of a day
pub record LimitsOf (day : List ℕ) (l : Limits) : Type 0 where
  pub load_is : l.load ≡ load_limit day
  pub kg_is : l.kg ≡ day_limit day
  pub visits_is : l.visits ≡ stop_limit day
