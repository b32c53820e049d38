-- `plan_words::read_word` meets its contract: which word it is, by the tests of the definition.
use mathlib.Core.Path.{sym}
use Rattle.plan_words.proofs.WordForms.{vehicle_read, stop_read, tip_read, rest_read, back_read, left_read, stray_read}
use Rattle.plan_words.proofs.read_word.Goals as goal

pub returns-in-10485760 : goal.returns-in-10485760
returns-in-10485760 c = rw c.number-number.ensures (sym (search vehicle_read))

pub returns-in-11534336 : goal.returns-in-11534336
returns-in-11534336 c = rw c.number-number.ensures (sym (search stop_read))

pub returns-in-12582912 : goal.returns-in-12582912
returns-in-12582912 c = rw c.number-number.ensures (sym (search tip_read))

pub returns-in-15728640 : goal.returns-in-15728640
returns-in-15728640 c = rw c.number-number.ensures (sym (search left_read))

pub returns-in-3489660928 : goal.returns-in-3489660928
returns-in-3489660928 c = sym (search rest_read)

pub returns-in-3758096384 : goal.returns-in-3758096384
returns-in-3758096384 c = sym (search back_read)

pub returns-in_default-word : goal.returns-in_default-word
returns-in_default-word c = sym (search stray_read)
