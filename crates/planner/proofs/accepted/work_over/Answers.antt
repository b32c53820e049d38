-- `planner::accepted::work_over` meets its contract.
use Prim.Native.Nat.{◌*◌, ◌≤◌}
use native.Mathlib.Omega.{arith}
use lib.ListN.{length}
use mathlib.Core.Path.{refl}
use borrow.Author.Rules.{rules}
use Rattle.search_steps.proofs.SearchSteps.{settled_by}
use Rattle.planner.proofs.PlanCalls.{not_refused, lent_long, distance_is, greedy_at, worked_over}
use Rattle.planner.proofs.accepted.work_over.Goals as goal

pub improve-last-requires : goal.improve-last-requires
improve-last-requires c =
    let n = c.stops-need.ensures.count in
    let room : 5 * c.stops-need.result ≤ length c.args.plan.now = omega (arith, n, c.requires.1) in
    let greedy = c.build_accepted.ensures in
    record {
      buffers = (c.requires.0, omega (arith, n, lent_long _ _ n room greedy.buffer), search rules);
      plan_at = (
        greedy_at _ _ n room greedy.buffer greedy.answer c.in-Planned.is,
        distance_is _ _ n room greedy.buffer greedy.answer c.in-Planned.is,
      );
    }

pub returns-in-Planned : goal.returns-in-Planned
returns-in-Planned c =
    let n = c.stops-need.ensures.count in
    let room : 5 * c.stops-need.result ≤ length c.args.plan.now = omega (arith, n, c.requires.1) in
    let greedy = c.build_accepted.ensures in
    worked_over _ _ n room greedy.buffer greedy.answer c.in-Planned.is c.improve-last.ensures (search rules) (settled_by (search rules) (search rules))

pub returns-in-Refused : goal.returns-in-Refused
returns-in-Refused c = let greedy = c.build_accepted.ensures in absurd (not_refused _ _ refl c.requires.1 greedy.answer c.in-Refused.is)
