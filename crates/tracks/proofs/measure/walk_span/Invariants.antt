-- `tracks::measure::walk_span` meets its contract.
use Prim.Native.Nat.{ℕ}
use mathlib.Core.List.{List}
use Rattle.rules.specs.Plan.{Round}
use Rattle.edits.specs.EditWords.{edit_of}
use Rattle.walks.specs.Cabs.{Start}
use Rattle.walks.specs.Rewalks.{Midway}
use Rattle.tracks.specs.Measure.{Cuttable}
use Rattle.tracks.proofs.measure.walk_span.Given as goal

abbrev pub invariant-loop-task : goal.invariant-loop-task
invariant-loop-task l = (ts : Round) (start : Start) (p : List ℕ) → Cuttable l.day (edit_of l.edit) l.tasks p l.from l.behind l.span.first l.span.last ts → Midway l.day (edit_of l.edit) start p l.initial.part ts l.span.first l.initial.cab → Midway l.day (edit_of l.edit) start p l.part ts l.task l.cab
