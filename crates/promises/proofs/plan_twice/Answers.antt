-- `promises::plan_twice` meets its contract.
use borrow.Author.Rules.{rules}
use Rattle.promises.proofs.DemandThree.{demand_three}
use Rattle.promises.proofs.plan_twice.Goals as goal

pub returns : goal.returns
returns c = let first = c.plan.ensures in
    let second = c.plan-2.ensures in
    λ l m s. demand_three _ _ l m s (search rules) first.answer first.buffer second.answer second.buffer
