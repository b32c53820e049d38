-- `day_faults::parts::check_number` meets its contract.
use Rattle.day_faults.proofs.Judged.{word_judged}
use Rattle.day_faults.proofs.parts.check_number.Goals as goal

pub returns : goal.returns
returns c = search word_judged
