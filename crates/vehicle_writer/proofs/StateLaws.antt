-- A vehicle's state after a task and after a rest, and that its numbers stay small. Assumes nothing.
use Prim.Native.Nat.{ℕ}
use mathlib.Core.Path.{◌≡◌, sym, ap, ◌∙◌, subst}
use mathlib.Core.List.{List}
use native.Mathlib.Omega.{arith}
use Rattle.rules.specs.Fields.{stop_place, quantity}
use Rattle.rules.specs.Cargo.{loaded}
use Rattle.rules.specs.Cargo as Carried
use Rattle.rules.specs.Trip.{leaving, visited}
use Rattle.laws.specs.Marks.{Unmarked}
use Rattle.trips.specs.Trips.{CargoWithin, SmallTrip}
use Rattle.ways_home.proofs.HomeLaws.{rest_small}
use Rattle.vehicle_writer.specs.Done.{SmallState, Served, Rested}
use Rattle.vehicle_writer.specs.declared.state.State.{State}

-- and a rest keeps them small
module _ {day : List ℕ} {s : State} (small : SmallState day s) (r : State) (rested : Rested day s r) where
  pub rested_trip : SmallTrip day 2147483648 r.trip
  rested_trip = rest_small day 2147483648 s.trip r.trip small.trip rested.trip

  pub rested_cargo : CargoWithin r.cargo
  rested_cargo = subst CargoWithin (sym rested.cargo) small.cargo
