-- `walks::cabs::empty_first` meets its contract.
use Rattle.walks.proofs.WalkLaws.{must_empty, need_not_empty}
use Rattle.walks.proofs.cabs.empty_first.Goals as goal

pub returns-then-must : goal.returns-then-must
returns-then-must c = search must_empty

pub returns : goal.returns
returns c = search need_not_empty
