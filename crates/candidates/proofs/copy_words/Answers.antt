-- `candidates::copy_words` meets its contract: the first i words stand at the part's front.
use Rattle.laws.proofs.Buffer.{wrote_none}
use Rattle.candidates.proofs.CopyLaws.{copy_next}
use Rattle.candidates.proofs.copy_words.Goals as goal

pub loop-i-init : goal.loop-i-init
loop-i-init c = wrote_none _

pub loop-i-preserved : goal.loop-i-preserved
loop-i-preserved c = search copy_next
