-- `tracks::before::fill_before` meets its contract.
use Prim.Native.Nat.{ℕ}
use mathlib.Core.Path.{◌≡◌}
use mathlib.Core.List.{[], List, ◌∷◌}
use lib.ListN.{length}
use Rattle.rules.specs.PlanWords.{vehicle_word}
use Rattle.rules.specs.Plan.{Round}
use Rattle.laws.specs.Buffer.{Wrote}
use Rattle.onward.specs.declared.TheConstants.{ROWS}
use Rattle.tracks.specs.Before.{RowsKept, VehicleTasks}
use Rattle.tracks.proofs.BeforeLaws.{FillingBefore}
use Rattle.tracks.proofs.before.fill_before.Given as goal

abbrev pub invariant-loop-i : goal.invariant-loop-i
invariant-loop-i l = (length l.before ≡ ROWS) × RowsKept l.from l.initial.before l.before × ((p : List ℕ) (ts : Round) → Wrote (vehicle_word 0 ∷ []) p l.initial.part 1 → VehicleTasks l.day l.words p ts → FillingBefore l.day l.before l.from p l.part ts l.i l.cab)
