-- A drive that ends in a trip or in a fault. It serves the contracts of this crate's own functions. Assumes nothing.
use Rattle.std.specs.Prelude.{ℕ, ◌≡◌, Result, Ok, Err}
use Rattle.rules.specs.Faults.{plan_fault_number, number_of_fault}
use Rattle.rules.specs.declared.faults.PlanFault.{PlanFault}
use Rattle.rules.specs.declared.walk.Trip.{Trip}
use Rattle.trips.specs.Trips.{no_trip}

-- the trip of a drive without a fault
abbrev pub trip_of : Result Trip PlanFault → Trip
trip_of (Ok trip) = trip
trip_of (Err _) = no_trip

-- a drive that ends in a trip, or in a fault that is not 0
pub record DrivesTo (fault : ℕ) (trip : Trip) (r : Result Trip PlanFault) : Type 0 where
  pub fault_is : number_of_fault plan_fault_number r ≡ fault
  pub trip_is : fault ≡ 0 → trip_of r ≡ trip
