-- `walks::vehicle::walk_tasks` meets its contract.
use native.Mathlib.Omega.{arith}
use Rattle.laws.proofs.Buffer.{wrote_none, wrote_put}
use Rattle.walks.proofs.MidwayLaws.{midway_start, midway_task, midway_step}
use Rattle.walks.proofs.HomeLaws.{task_fails, tasks_done}
use Rattle.walks.proofs.vehicle.walk_tasks.Goals as goal

pub loop-task-init : goal.loop-task-init
loop-task-init c = λ p ts w h. midway_start w h c.fresh_cab-cab.ensures.0 c.fresh_cab-cab.ensures.1 c.fresh_cab-cab.ensures.2

pub walk_task-requires : goal.walk_task-requires
walk_task-requires c =
    let s = c.requires.3 in (
      c.requires.0,
      c.requires.1,
      midway_task s.walkable c.loop-task-test.true 0 (c.loop-task.invariant _ s.tasks (wrote_put (wrote_none _) _ (omega (arith, s.walkable.room))) s.walkable),
    )

pub returns-in_err-cab : goal.returns-in_err-cab
returns-in_err-cab c =
    λ ts h.
    rw c.from_residual.ensures (task_fails h c.loop-task-test.true 0 (c.loop-task.invariant _ ts (wrote_put (wrote_none _) _ (omega (arith, h.room))) h) c.in_err-cab.ensures)

pub loop-task-preserved : goal.loop-task-preserved
loop-task-preserved c = λ p ts w h. midway_step h c.loop-task-test.true 0 (c.loop-task.invariant p ts w h) c.in_ok-cab.ensures

pub returns : goal.returns
returns c = λ ts h. tasks_done h c.loop-task-test.false (c.loop-task.invariant _ ts (wrote_put (wrote_none _) _ (omega (arith, h.room))) h)
