-- `checker::run::check_each` meets its contract: what is left to check after i words is answered as the whole plan is.
use mathlib.Core.Path.{◌≡◌, refl, ◌∙◌}
use native.Mathlib.Omega.{arith}
use lib.ListN.{length}
use Rattle.plan_parts.proofs.Reaching.{reached_start, reached_small, reached_fault, stop_below, reached_next, reached_tally, reached_end}
use Rattle.checker.proofs.Answering.{fault_told}
use Rattle.checker.proofs.run.check_each.Goals as goal

pub loop-i-init : goal.loop-i-init
loop-i-init c = search reached_start

pub word_step-requires : goal.word_step-requires
word_step-requires c = search reached_small

pub returns-in-Err : goal.returns-in-Err
returns-in-Err c =
    rw (fault_told c.in-Err.fault) (reached_fault _ _ _ _ _ c.loop-i.invariant c.loop-i-test.true c.in-Err.ensures)

pub bounds-met-step : goal.bounds-met-step
bounds-met-step c = stop_below _ _ _ _ _ c.loop-i.invariant c.loop-i-test.true c.in-Ok.ensures

pub loop-i-preserved : goal.loop-i-preserved
loop-i-preserved c = reached_next _ _ _ _ _ c.loop-i.invariant c.loop-i-test.true c.in-Ok.ensures refl

pub finish-requires : goal.finish-requires
finish-requires c = search reached_tally

pub returns : goal.returns
returns c =
    let end : c.loop-i.i ≡ length c.args.plan.now = omega (arith, c.loop-i.auto.i-end, c.loop-i-test.false) in
    reached_end _ _ _ _ _ _ _ c.loop-i.invariant c.loop-i-test.false c.stops.ensures.count (c.finish.ensures ∙ rw end refl)
