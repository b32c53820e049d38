-- `plan_parts::parts::round` meets its contract: a vehicle is out, with no word at fault so far.
use Rattle.plan_parts.specs.Walked.{out_with, Reached}
use Rattle.plan_parts.proofs.parts.round.Given as goal

abbrev pub invariant-loop-i : goal.invariant-loop-i
invariant-loop-i l = Reached l.limited.day.now l.plan l.i (out_with l.y l.cargo l.trip) l.met
