-- What the check hands on from word to word. It serves contracts; no definition of the check rests on it. Assumes nothing.
use Rattle.std.specs.Prelude.{ℕ, ◌+◌, ◌*◌, ◌≤◌, ◌≡◌, Bool, true, false, not, List, get_or, Result, IfOk, if◌then◌else◌}
use Rattle.rules.specs.Faults.{plan_fault_number, number_of_fault}
use Rattle.rules.specs.Tests.{neb}
use Rattle.rules.specs.declared.faults.PlanFault.{PlanFault}
use Rattle.rules.specs.PlanWords.{Word, vehicle, stop, tip, rest, back, left, stray}
use Rattle.rules.specs.Cargo.{cargo_fault, cargo_after}
use Rattle.rules.specs.Trip.{trip_fault, trip_after}
use Rattle.rules.specs.Check.{well_formed, tally_after}
use Rattle.word_steps.specs.declared.steps.State.{State}
use Rattle.word_steps.specs.declared.steps.Step.{Step}
use Rattle.trips.specs.Trips.{CargoWithin, TripWithin, TallyWithin}

-- a stop is met, by its mark; mark 0 stands for no stop
abbrev pub is_met : List Bool → ℕ → Bool
is_met met k = get_or met k false

-- the stop that a word names, 0 for none
unfoldable pub stop_in : Word → ℕ
stop_in (vehicle k) = 0
stop_in (stop k) = k
stop_in (tip k) = 0
stop_in rest = 0
stop_in back = 0
stop_in (left k) = k
stop_in stray = 0

-- the stop that a word names was met before, by its mark
unfoldable pub is_met_in : List Bool → Word → Bool
is_met_in met (vehicle k) = false
is_met_in met (stop k) = is_met met k
is_met_in met (tip k) = false
is_met_in met rest = false
is_met_in met back = false
is_met_in met (left k) = is_met met k
is_met_in met stray = false

-- what is wrong with a word that has the form and names no stop that was met before
unfoldable pub formed_fault : List ℕ → State → Word → ℕ
formed_fault day s w =
    if neb (cargo_fault day s.cargo w) 0 then cargo_fault day s.cargo w else trip_fault day s.trip w

-- what is wrong with a word, by the marks of the stops met
unfoldable pub fault_by : List ℕ → List Bool → State → Word → ℕ
fault_by day met s w =
    if not (well_formed day s.tally s.cargo w) then 7
    else if is_met_in met w then 8
    else formed_fault day s w

-- the state after a word, and the stop that the word names
pub record Next (day : List ℕ) (s : State) (w : Word) (r : Step) : Type 0 where
  pub stop_is : r.stop ≡ stop_in w
  pub tally_is : r.state.tally ≡ tally_after s.tally (trip_after day s.trip w) w
  pub cargo_is : r.state.cargo ≡ cargo_after day s.cargo w
  pub trip_is : r.state.trip ≡ trip_after day s.trip w

-- one word's step, where what is wrong with the word is known
pub record StepOf (fault : ℕ) (day : List ℕ) (s : State) (w : Word) (r : Result Step PlanFault) : Type 0 where
  pub fault_is : number_of_fault plan_fault_number r ≡ fault
  pub next_is : IfOk r (Next day s w)

-- the state after so many words
pub record Within (day : List ℕ) (i : ℕ) (s : State) : Type 0 where
  pub cargo_small : CargoWithin s.cargo
  pub trip_small : TripWithin day i s.trip
  pub tally_small : TallyWithin i s.tally
  pub driven : s.tally.inside ≡ true → s.tally.distance + s.trip.distance ≤ 65535 * i
