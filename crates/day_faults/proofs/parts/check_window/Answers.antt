-- `day_faults::parts::check_window` meets its contract.
use Rattle.day_faults.proofs.Judged.{word_judged}
use Rattle.day_faults.proofs.parts.check_window.Goals as goal

pub returns : goal.returns
returns c = search word_judged
