-- `onward::tip_first` meets its contract.
use Rattle.onward.proofs.FirstLaws.{tip_empties, tip_over}
use Rattle.onward.proofs.tip_first.Goals as goal

pub returns-then-o-eq0 : goal.returns-then-o-eq0
returns-then-o-eq0 c = search tip_empties

pub returns-else-o-eq0 : goal.returns-else-o-eq0
returns-else-o-eq0 c = search tip_over
