-- A state before and after a task, and before and after a rest, as the code has it. It serves the contracts of this crate's own functions.
-- Assumes nothing.
use Rattle.std.specs.Prelude.{ℕ, ◌<◌, ◌≡◌, true, List}
use Rattle.rules.specs.Fields.{stop_place}
use Rattle.rules.specs.PlanWords.{Word, stop, tip, back}
use Rattle.rules.specs.Cargo.{emptied}
use Rattle.rules.specs.Trip.{visited}
use Rattle.rules.specs.Home.{rest_if_due}
use Rattle.rules.specs.Choice.{taking}
use Rattle.laws.specs.Marks.{marked, Unmarked}
use Rattle.trips.specs.Trips.{CargoWithin, SmallTrip}
use Rattle.next_task.specs.NextBy.{next_of, next_by, NextWithin}
use Rattle.next_task.specs.declared.tasks.Next.{Next}
use Rattle.next_task.specs.declared.tasks.Next.TheVariants as Nexts
use Rattle.vehicle_writer.specs.declared.state.State.{State}
use Rattle.vehicle_writer.specs.declared.state.Ready.{Ready}

-- the numbers of the state are small
pub record SmallState (day : List ℕ) (s : State) : Type 0 where
  pub trip : SmallTrip day 2147483648 s.trip
  pub cargo : CargoWithin s.cargo

-- a stop to be served is still marked
abbrev pub Doable : List ℕ → Next → Type 0
Doable words (Nexts.Stop k) = marked words k ≡ true
Doable words (Nexts.Tip x) = Unit {0}
Doable words Nexts.Home = Unit {0}

-- the number of a task fits into its word
abbrev pub Fits : Next → Type 0
Fits (Nexts.Stop k) = k < 256
Fits (Nexts.Tip x) = x < 256
Fits Nexts.Home = Unit {0}

-- what the word of a task says; E where there is none
abbrev pub next_said : Next → Word
next_said (Nexts.Stop k) = stop k
next_said (Nexts.Tip x) = tip x
next_said Nexts.Home = back

-- stop k is served
pub record Served (day : List ℕ) (s : State) (k : ℕ) (r : State) : Type 0 where
  pub trip : r.trip ≡ visited day s.trip (stop_place day k)
  pub cargo : r.cargo ≡ taking day s.cargo k
  pub left : Unmarked s.left.words k r.left.words

-- the load is emptied at tip x
pub record Emptied (day : List ℕ) (s : State) (x : ℕ) (r : State) : Type 0 where
  pub trip : r.trip ≡ visited day s.trip x
  pub cargo : r.cargo ≡ emptied s.cargo
  pub left : r.left ≡ s.left

-- what a task does to the state
abbrev pub Done : List ℕ → State → Next → State → Type 0
Done day s (Nexts.Stop k) r = Served day s k r
Done day s (Nexts.Tip x) r = Emptied day s x r
Done day s Nexts.Home r = r ≡ s

-- a rest is taken if due
pub record Rested (day : List ℕ) (s r : State) : Type 0 where
  pub trip : r.trip ≡ rest_if_due day s.trip
  pub cargo : r.cargo ≡ s.cargo
  pub left : r.left ≡ s.left

-- and the next task is found
pub record MadeReady (day : List ℕ) (s : State) (r : Ready) : Type 0 where
  pub rested : Rested day s r.state
  pub next_is : next_of r.next ≡ next_by day r.state.trip r.state.cargo (marked r.state.left.words)
  pub next_in : NextWithin day r.next
