-- `plan_queries::vehicle_words` meets its contract: the part lies within the plan.
-- the part lies within the plan
use Prim.Native.Nat.{◌≤◌, ◌+◌}
use borrow.Author.Rules.{rules}
use lib.ListN.{length}
use native.Mathlib.Omega.{arith}
use Rattle.plan_queries.proofs.PlanCalls.{part_within, part_handed, part_empty}
use Rattle.plan_queries.proofs.vehicle_words.Goals as goal

pub overflow_add-end : goal.overflow_add-end
overflow_add-end c = let i : c.in-Found.start + c.in-Found.length ≤ length c.args.plan.now = search part_within in omega arith

pub offset_bounds-plan-start : goal.offset_bounds-plan-start
offset_bounds-plan-start c = let i : c.in-Found.start + c.in-Found.length ≤ length c.args.plan.now = search part_within in search rules

pub slice_bounds-result-end : goal.slice_bounds-result-end
slice_bounds-result-end c = search part_within

pub returns-in-Found : goal.returns-in-Found
returns-in-Found c = search part_handed

pub returns-in-Refused : goal.returns-in-Refused
returns-in-Refused c = search part_empty
