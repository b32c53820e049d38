-- How a vehicle of the greedy build goes on: it rests if due, does its next task, and ends where there is none. As many tasks as it may
-- do are enough, and more would change nothing. The day may be any list of words.
-- Assumes nothing.
use Rattle.std.specs.Prelude.{if◌then◌else◌}
use Prim.Native.Nat.{ℕ, zero, suc, ◌+◌, ◌*◌, ◌≤◌, ◌<◌}
use mathlib.Core.Path.{◌≡◌, sym, ◌∙◌, subst}
use mathlib.Core.Bool.{true, false}
use mathlib.Core.List.{List}
use mathlib.Core.Logic.{inl, inr}
use mathlib.Core.Option.{none, some}
use native.Mathlib.Omega.{arith}
use lib.Dec.{ltb}
use borrow.Author.Tests.{lt-ltb}
use Rattle.rules.specs.Lists.{unmet}
use Rattle.rules.specs.Fields.{stops}
use Rattle.rules.specs.Plan.{Task, lunch}
use Rattle.rules.specs.Cargo.{cargo_after}
use Rattle.rules.specs.Check.{met_after}
use Rattle.rules.specs.Home.{due, rest_if_due}
use Rattle.rules.specs.Build.{Truck, fresh, doing, resting, next_task, drive, one_vehicle}
use Rattle.laws.proofs.Fresh.{unmet_most}
use Rattle.laws.proofs.Lists.{unmet_less}
use Rattle.greedy_laws.specs.Reached.{Reached, set_out, goes_on}
use Rattle.laws.proofs.Decided.{known, known_option, bit_most}
use Rattle.greedy_laws.proofs.NextTasks.{IsNext, serves, empties, next_some}

-- the rest before the next task: what the vehicle carries and the stops routed stay, and it is not due again
module _ (day : List ℕ) (v : Truck) where
  pub resting_due : due day v.trip ≡ true → resting day v ≡ doing day v lunch
  unfolding resting
  resting_due e = rw e

  pub resting_not : due day v.trip ≡ false → resting day v ≡ v
  unfolding resting
  resting_not e = rw e

  pub resting_trip : (resting day v).trip ≡ rest_if_due day v.trip
  unfolding resting rest_if_due
  resting_trip = elim (known (due day v.trip)) [ inl e ↦ rw e | inr e ↦ rw e ]

  pub resting_cargo : (resting day v).cargo ≡ v.cargo
  unfolding resting cargo_after
  resting_cargo = elim (known (due day v.trip)) [ inl e ↦ rw e | inr e ↦ rw e ]

  pub resting_taken : (resting day v).taken ≡ v.taken
  unfolding resting met_after
  resting_taken = elim (known (due day v.trip)) [ inl e ↦ rw e | inr e ↦ rw e ]

  pub resting_done : due day (resting day v).trip ≡ false
  unfolding resting due
  resting_done = elim (known (due day v.trip)) [ inl e ↦ rw e | inr e ↦ rw e e ]

-- each task takes a stop, or empties a load: what is left to do for a vehicle
unfoldable pub to_do : List ℕ → Truck → ℕ
to_do day v = 2 * unmet (stops day) v.taken + (if ltb 0 v.cargo.load then 1 else 0)

pub resting_to_do : (day : List ℕ) (v : Truck) → to_do day (resting day v) ≡ to_do day v
unfolding to_do
resting_to_do day v = rw (resting_cargo day v, resting_taken day v)

pub next_to_do : (day : List ℕ) (v : Truck) (task : Task) → IsNext day v task → to_do day (doing day v task) < to_do day v
unfolding to_do met_after cargo_after
next_to_do day v task (serves k c s) =
    omega (arith, unmet_less (stops day) k v.taken c.first c.within c.new, bit_most (ltb 0 (doing day v task).cargo.load))
next_to_do day v task (empties x l e o) = rw (lt-ltb 0 v.cargo.load l) (omega arith)

-- one step: no task is left, or one is done
pub drive_none : (day : List ℕ) (most : ℕ) (v : Truck) → next_task day (resting day v) ≡ none → drive day (suc most) v ≡ resting day v
unfolding drive
drive_none day most v e = rw (e, drive)

pub drive_some : (day : List ℕ) (most : ℕ) (v : Truck) (task : Task) → next_task day (resting day v) ≡ some task
    → drive day (suc most) v ≡ drive day most (doing day (resting day v) task)
unfolding drive
drive_some day most v task e = rw (e, drive)

-- a task done leaves less to do
step_to_do : (day : List ℕ) (v : Truck) (task : Task) → next_task day (resting day v) ≡ some task
    → to_do day (doing day (resting day v) task) < to_do day v
step_to_do day v task e = omega (arith, next_to_do day (resting day v) task (next_some day (resting day v) task e), resting_to_do day v)

-- more tasks allowed than there can be change nothing
pub drive_more : (day : List ℕ) (most more : ℕ) (v : Truck) → to_do day v < most → most ≤ more → drive day more v ≡ drive day most v
drive_more day zero more v h g = absurd (omega arith)
drive_more day (suc most) zero v h g = absurd (omega arith)
drive_more day (suc most) (suc more) v h g = elim (known_option (next_task day (resting day v))) [
  | inl e ↦ drive_none day more v e ∙ sym (drive_none day most v e)
  | inr s ↦ drive_some day more v s.0 s.1
      ∙ drive_more day most more (doing day (resting day v) s.0) (omega (arith, step_to_do day v s.0 s.1)) (omega arith)
      ∙ sym (drive_some day most v s.0 s.1)
]

-- the vehicle ends because no task is left, and no rest is due
pub record Ended (day : List ℕ) (v : Truck) : Type 0 where
  pub no_task : next_task day v ≡ none
  pub not_due : due day v.trip ≡ false

pub drive_ended : (day : List ℕ) (most : ℕ) (v : Truck) → to_do day v < most → Ended day (drive day most v)
drive_ended day zero v h = absurd (omega arith)
drive_ended day (suc most) v h = elim (known_option (next_task day (resting day v))) [
  | inl e ↦ subst (Ended day) (sym (drive_none day most v e)) (record { no_task = e; not_due = resting_done day v })
  | inr s ↦ subst (Ended day) (sym (drive_some day most v s.0 s.1))
      (drive_ended day most (doing day (resting day v) s.0) (omega (arith, step_to_do day v s.0 s.1)))
]

-- what a rest that is due keeps
pub resting_keeps : (day : List ℕ) (P : Truck → Type 0) → ((v : Truck) → due day v.trip ≡ true → P v → P (doing day v lunch))
    → (v : Truck) → P v → P (resting day v)
resting_keeps day P rests v p = elim (known (due day v.trip)) [
  | inl e ↦ subst P (sym (resting_due day v e)) (rests v e p)
  | inr e ↦ subst P (sym (resting_not day v e)) p
]

-- what each next task keeps too, where no rest is due, holds of every vehicle that is reached, and at its end
module _ (day : List ℕ) (P : Truck → Type 0)
    (rests : (v : Truck) → due day v.trip ≡ true → P v → P (doing day v lunch))
    (does : (v : Truck) (task : Task) → due day v.trip ≡ false → IsNext day v task → P v → P (doing day v task)) where
  step_keeps : (v : Truck) (task : Task) → next_task day (resting day v) ≡ some task → P v → P (doing day (resting day v) task)
  step_keeps v task e p =
      does (resting day v) task (resting_done day v) (next_some day (resting day v) task e) (resting_keeps day P rests v p)

  pub drive_keeps : (most : ℕ) (v : Truck) → P v → P (drive day most v)
  unfolding drive
  drive_keeps zero v p = p
  drive_keeps (suc most) v p = elim (known_option (next_task day (resting day v))) [
    | inl e ↦ subst P (sym (drive_none day most v e)) (resting_keeps day P rests v p)
    | inr s ↦ subst P (sym (drive_some day most v s.0 s.1))
        (drive_keeps most (doing day (resting day v) s.0) (step_keeps v s.0 s.1 p))
  ]

  module _ (before : List ℕ) where
    pub reached_keeps : (v : Truck) → P (fresh day before) → Reached day before v → P v
    reached_keeps v p set_out = p
    reached_keeps v p (goes_on u task r e) = step_keeps u task e (reached_keeps u p r)

    pub vehicle_keeps : P (fresh day before) → P (one_vehicle day before)
    unfolding one_vehicle
    vehicle_keeps = drive_keeps (2 * stops day + 2) (fresh day before)

-- one vehicle: 2n + 2 tasks are enough
module _ (day taken : List ℕ) where
  pub fresh_to_do : to_do day (fresh day taken) < 2 * stops day + 2
  unfolding to_do
  fresh_to_do = omega (arith, unmet_most (stops day) taken)

  pub vehicle_ended : Ended day (one_vehicle day taken)
  unfolding one_vehicle
  vehicle_ended = drive_ended day (2 * stops day + 2) (fresh day taken) fresh_to_do

-- the vehicle driven to its end, with no number of tasks to count down: it rests, or does its next task and is driven on
unfoldable pub to_end : List ℕ → Truck → Truck
to_end day v = drive day (suc (to_do day v)) v

pub end_none : (day : List ℕ) (v : Truck) → next_task day (resting day v) ≡ none → to_end day v ≡ resting day v
unfolding to_end
end_none day v = drive_none day (to_do day v) v

pub end_some : (day : List ℕ) (v : Truck) (task : Task) → next_task day (resting day v) ≡ some task
    → to_end day v ≡ to_end day (doing day (resting day v) task)
unfolding to_end
end_some day v task e =
    let next = doing day (resting day v) task in
    let less = step_to_do day v task e in
    drive_some day (to_do day v) v task e ∙ drive_more day (suc (to_do day next)) (to_do day v) next (omega arith) (omega arith)

-- every vehicle that is reached is driven to the end of the one that set out
pub reached_end : (day before : List ℕ) (v : Truck) → Reached day before v → to_end day v ≡ one_vehicle day before
unfolding to_end one_vehicle
reached_end day before v set_out = sym (drive_more day (suc (to_do day v)) (2 * stops day + 2) v (omega arith) (omega (arith, fresh_to_do day before)))
reached_end day before v (goes_on u task r e) = sym (end_some day u task e) ∙ reached_end day before u r
