-- `day_bytes::bytes::write_words` meets its contract: the first i words stand at the buffer's front.
use Rattle.laws.proofs.Buffer.{wrote_none}
use Rattle.day_bytes.proofs.Reading.{word_written}
use Rattle.day_bytes.proofs.bytes.write_words.Goals as goal

pub loop-i-init : goal.loop-i-init
loop-i-init c = wrote_none _

pub loop-i-preserved : goal.loop-i-preserved
loop-i-preserved c = search word_written
