-- `vehicle_writer::writer::write_tasks` meets its contract.
use Prim.Native.Nat.{◌-◌}
use mathlib.Core.Path.{◌≡◌}
use Rattle.vehicle_writer.specs.Going.{GoesOn}
use Rattle.vehicle_writer.proofs.writer.write_tasks.Given as goal

abbrev pub invariant-loop-words : goal.invariant-loop-words
invariant-loop-words l =
    (l.words.part.ghost_name ≡ l.initial.words.part.ghost_name)
    × GoesOn l.day l.initial.words.part.now l.initial.words.count l.initial.ready l.words.part.now l.words.count l.ready

abbrev pub decreases-loop-words : goal.decreases-loop-words
decreases-loop-words l = 1280 - l.words.count
