-- `walks::cabs::insert_tip` meets its contract.
use borrow.Author.Rules.{rules}
use Rattle.walks.proofs.CabLaws.{insert_fails, some_still, insert_drives}
use Rattle.walks.proofs.cabs.insert_tip.Goals as goal

pub returns-in_err-tip : goal.returns-in_err-tip
returns-in_err-tip c = rw c.from_residual.ensures (insert_fails _ c.in_err-tip.ensures.number_is)

pub rest_cab-requires : goal.rest_cab-requires
rest_cab-requires c = search (rules, some_still c.requires.1 _ c.empty_cab-emptied.ensures)

pub returns : goal.returns
returns c = insert_drives _ _ _ c.in_ok-tip.ensures.number_is c.in_ok-tip.ensures.within.0 c.empty_cab-emptied.ensures c.rest_cab.ensures
