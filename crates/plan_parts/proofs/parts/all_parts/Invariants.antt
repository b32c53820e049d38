-- `plan_parts::parts::all_parts` meets its contract: what is left to check behind each part is answered as the whole plan is.
use Prim.Native.Nat.{◌≤◌, ◌-◌}
use lib.ListN.{length}
use Rattle.plan_parts.specs.Walked.{Reached}
use Rattle.plan_parts.proofs.parts.all_parts.Given as goal

abbrev pub invariant-loop-i : goal.invariant-loop-i
invariant-loop-i l = (l.i ≤ length l.plan) × Reached l.limited.day.now l.plan l.i l.s l.met

abbrev pub decreases-loop-i : goal.decreases-loop-i
decreases-loop-i l = length l.plan - l.i
