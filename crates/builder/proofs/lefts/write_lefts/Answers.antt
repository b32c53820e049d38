-- `builder::lefts::write_lefts` meets its contract.
use Rattle.builder.proofs.LeftLaws.{turn_first, turn_space, turn_next, turn_last}
use Rattle.builder.proofs.lefts.write_lefts.Goals as goal

pub loop-stop-init : goal.loop-stop-init
loop-stop-init c = turn_first _ c.requires

pub bounds-part-at : goal.bounds-part-at
bounds-part-at c = turn_space c.loop-stop.invariant c.in-Some.ensures

pub loop-stop-preserved : goal.loop-stop-preserved
loop-stop-preserved c = turn_next c.loop-stop.invariant c.in-Some.ensures _ c.left_word.ensures c.unmark-others.ensures

pub returns-clause-text : goal.returns-clause-text
returns-clause-text c = turn_last c.loop-stop.invariant c.in_default.ensures
