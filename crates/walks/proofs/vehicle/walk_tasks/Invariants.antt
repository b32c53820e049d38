-- `walks::vehicle::walk_tasks` meets its contract.
use Prim.Native.Nat.{ℕ}
use mathlib.Core.List.{[], List, ◌∷◌}
use Rattle.rules.specs.PlanWords.{vehicle_word}
use Rattle.rules.specs.Plan.{Round}
use Rattle.laws.specs.Buffer.{Wrote}
use Rattle.edits.specs.EditWords.{edit_of}
use Rattle.walks.specs.Cabs.{at_depot}
use Rattle.walks.specs.Rewalks.{Walkable, Midway}
use Rattle.walks.proofs.vehicle.walk_tasks.Given as goal

abbrev pub invariant-loop-task : goal.invariant-loop-task
invariant-loop-task l =
    (p : List ℕ) (ts : Round) → Wrote (vehicle_word l.number ∷ []) p l.initial.part 1 → Walkable l.day (edit_of l.edit) l.tasks p ts
    → Midway l.day (edit_of l.edit) (at_depot l.number) p l.part ts l.task l.cab
