-- `builder::fleet::write_vehicles` meets its contract: each vehicle that is written takes a stop, so that the marks fall.
use Rattle.laws.specs.Marks.{ones_of}
use Rattle.builder.proofs.FleetWords.{Underway}
use Rattle.builder.proofs.fleet.write_vehicles.Given as goal

abbrev pub invariant-loop-written : goal.invariant-loop-written
invariant-loop-written l = Underway l.day l.initial.plan l.plan l.left l.words l.number

abbrev pub decreases-loop-written : goal.decreases-loop-written
decreases-loop-written l = ones_of l.left.words
