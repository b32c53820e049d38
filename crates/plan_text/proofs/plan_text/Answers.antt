-- `plan_text::plan_text` meets its contract.
use Rattle.std.proofs.Common.{◌∙◌}
use Rattle.plan_text.proofs.PrintedLaws.{printed_long, printed_short}
use Rattle.plan_text.proofs.plan_text.Goals as goal

pub returns-then-bytes-gt-MOST_BYTES : goal.returns-then-bytes-gt-MOST_BYTES
returns-then-bytes-gt-MOST_BYTES c = c.put_all.ensures ∙ rw c.clear.ensures (printed_long _ c.if-bytes-gt-MOST_BYTES.true)

pub returns-else-bytes-gt-MOST_BYTES : goal.returns-else-bytes-gt-MOST_BYTES
returns-else-bytes-gt-MOST_BYTES c = c.put_file.ensures ∙ printed_short _ c.if-bytes-gt-MOST_BYTES.false
