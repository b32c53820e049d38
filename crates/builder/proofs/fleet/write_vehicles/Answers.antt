-- `builder::fleet::write_vehicles` meets its contract.
use Rattle.builder.proofs.FleetWords.{underway_start, underway_next, ones_fall, next_few, underway_end}
use borrow.Author.Rules.{rules}
use native.Mathlib.Omega.{arith}
use Rattle.builder.proofs.fleet.write_vehicles.Goals as goal

pub loop-written-init : goal.loop-written-init
loop-written-init c = search (rules, underway_start)

pub overflow_add-words : goal.overflow_add-words
overflow_add-words c = omega (arith, next_few c.loop-written.invariant _ c.in-Some.ensures)

pub loop-written-smaller : goal.loop-written-smaller
loop-written-smaller c = ones_fall c.loop-written.invariant _ c.in-Some.ensures

pub loop-written-preserved : goal.loop-written-preserved
loop-written-preserved c = underway_next c.loop-written.invariant _ c.in-Some.ensures

pub returns : goal.returns
returns c = underway_end c.loop-written.invariant c.in_default.ensures
