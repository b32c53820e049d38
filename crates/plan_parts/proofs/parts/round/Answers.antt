-- `plan_parts::parts::round` meets its contract: a vehicle is out, with no word at fault so far.
use mathlib.Core.Path.{refl}
use native.Mathlib.Omega.{arith}
use Rattle.plan_parts.proofs.GoingThrough.{out_start, out_few, out_small, out_below, out_next, out_again}
use Rattle.plan_parts.proofs.parts.round.Goals as goal

pub loop-i-init : goal.loop-i-init
loop-i-init c = search out_start

pub out_with-s-requires : goal.out_with-s-requires
out_with-s-requires c = search out_few

pub task_step-requires : goal.task_step-requires
task_step-requires c = search out_small

pub bounds-met-step : goal.bounds-met-step
bounds-met-step c =
    out_below _ _ _ c.args.y c.loop-i.cargo c.loop-i.trip _ c.loop-i.invariant _ c.out_with-s.ensures c.loop-i-test.true c.in-Ok.ensures

pub returns-then-not-state : goal.returns-then-not-state
returns-then-not-state c =
    record {
      more = omega arith;
      most = omega arith;
      reached =
          out_next _ _ _ c.args.y c.loop-i.cargo c.loop-i.trip _ c.loop-i.invariant _ c.out_with-s.ensures c.loop-i-test.true
          c.in-Ok.ensures refl;
    }

pub loop-i-preserved : goal.loop-i-preserved
loop-i-preserved c =
    out_again _ _ _ c.args.y c.loop-i.cargo c.loop-i.trip _ c.loop-i.invariant _ c.out_with-s.ensures c.loop-i-test.true
    c.in-Ok.ensures refl c.if-not-state.false
