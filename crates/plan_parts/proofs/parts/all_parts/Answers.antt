-- `plan_parts::parts::all_parts` meets its contract: what is left to check behind each part is answered as the whole plan is.
use borrow.Author.Rules.{rules}
use Rattle.plan_parts.proofs.GoingThrough.{part_less, told_end}
use Rattle.plan_parts.proofs.Reaching.{reached_start}
use Rattle.plan_parts.proofs.parts.all_parts.Goals as goal

pub loop-i-init : goal.loop-i-init
loop-i-init c = (search rules, search reached_start)

pub loop-i-preserved : goal.loop-i-preserved
loop-i-preserved c = (c.in_ok-part.ensures.most, c.in_ok-part.ensures.reached)

pub loop-i-smaller : goal.loop-i-smaller
loop-i-smaller c = part_less _ _ _ _ c.in_ok-part.ensures

pub returns : goal.returns
returns c = search told_end
