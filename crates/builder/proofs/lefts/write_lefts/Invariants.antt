-- `builder::lefts::write_lefts`: the lowest stops are written, and the marks are those of the others.
use Rattle.builder.proofs.LeftLaws.{Turn}
use Rattle.laws.specs.Marks.{ones_of}
use Rattle.builder.proofs.lefts.write_lefts.Given as goal

abbrev pub invariant-loop-stop : goal.invariant-loop-stop
invariant-loop-stop l = Turn l.initial.part l.initial.others l.part l.others l.at

abbrev pub decreases-loop-stop : goal.decreases-loop-stop
decreases-loop-stop l = ones_of l.others.words
