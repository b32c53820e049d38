-- The vehicles that the build reaches. Assumes nothing.
use Rattle.std.specs.Prelude.{ℕ, ◌≡◌, List}
use Rattle.std.proofs.Math.Option.{some}
use Rattle.rules.specs.Plan.{Task}
use Rattle.rules.specs.Build.{Truck, fresh, doing, resting, next_task}

-- the vehicles that the build reaches before a rest and a task: a fresh one, and one that has done its next task
pub data Reached (day before : List ℕ) : Truck → Type 0 where
  set_out : Reached day before (fresh day before)
  goes_on : (v : Truck) (task : Task) → Reached day before v → next_task day (resting day v) ≡ some task
      → Reached day before (doing day (resting day v) task)
