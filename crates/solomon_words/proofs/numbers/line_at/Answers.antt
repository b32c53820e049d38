-- `solomon_words::numbers::line_at` meets its contract.
use Rattle.solomon_words.proofs.TableLaws.{line_first, line_on}
use Rattle.solomon_words.proofs.numbers.line_at.Goals as goal

pub loop-init : goal.loop-init
loop-init c = search line_first

pub loop-preserved : goal.loop-preserved
loop-preserved c = search line_on
