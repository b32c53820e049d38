-- `promises::grow_twice` meets its contract.
use borrow.Author.Rules.{rules}
use Rattle.promises.proofs.Growing.{growing_twice}
use Rattle.promises.proofs.grow_twice.Goals as goal

pub returns : goal.returns
returns c = let first = c.plan_growing.ensures in
    let second = c.plan_growing-2.ensures in
    λ s. growing_twice _ _ s (search rules) first.answer first.buffer second.answer second.buffer
