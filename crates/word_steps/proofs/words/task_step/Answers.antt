-- `word_steps::words::task_step` meets its contract: which word it is, by its distance from the first of its kind.
use Prim.Native.Nat.{◌+◌}
use Rattle.rules.specs.PlanWords.{tip, rest, back}
use Rattle.plan_words.proofs.WordForms.{rest_read, back_read}
use Rattle.word_steps.proofs.Forming.{stop_ranged, tip_ranged, task_word, task_any}
use Rattle.word_steps.proofs.words.task_step.Goals as goal

pub returns-then-stop-stops : goal.returns-then-stop-stops
returns-then-stop-stops c = search (task_word, stop_ranged)

pub returns-then-tip-tips : goal.returns-then-tip-tips
returns-then-tip-tips c = task_any _ _ _ _ _ (tip (c.tip_index-tip.result + 1)) (search tip_ranged) c.tip_word.ensures

pub returns-then-w-eq-REST : goal.returns-then-w-eq-REST
returns-then-w-eq-REST c = task_any _ _ _ _ _ rest (search rest_read) c.rest_word.ensures

pub returns-then-w-eq-BACK : goal.returns-then-w-eq-BACK
returns-then-w-eq-BACK c = task_any _ _ _ _ _ back (search back_read) c.back_word.ensures
