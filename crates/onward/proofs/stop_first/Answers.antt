-- `onward::stop_first` meets its contract.
use Rattle.onward.proofs.FirstLaws.{stop_fits, stop_over}
use Rattle.onward.proofs.stop_first.Goals as goal

pub returns-then-q-o : goal.returns-then-q-o
returns-then-q-o c = search stop_fits

pub returns-else-q-o : goal.returns-else-q-o
returns-else-q-o c = search stop_over
