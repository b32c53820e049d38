-- The task of a word, for those who take the words of a vehicle apart. Assumes nothing.
use Rattle.std.proofs.Common.{◌≡◌, ℕ, ◌<◌, List, sym, ap, subst, arith}
use Rattle.rules.specs.PlanWords.{Word, vehicle, stop, tip, rest, back, left, stray, word_of}
use Rattle.rules.specs.Plan.{Task, serve, empty, lunch, task_word, Known}
use Rattle.plan_words.specs.Reading.{task_said}
use Rattle.plan_words.proofs.WordForms.{Apart, is_vehicle, is_stop, is_tip, is_rest, is_back, is_left, is_stray, apart, stop_made, tip_made, rest_read}

-- the word of a known task says it
pub task_told : (day : List ℕ) (w : ℕ) (task : Task) → Known day task → w ≡ task_word task → task ≡ task_said (word_of w)
unfolding Known task_word
task_told day w (serve k) n e = sym (ap task_said (stop_made k (omega (arith, n.1)) e))
task_told day w (empty k) n e = sym (ap task_said (tip_made k (omega (arith, n.1)) e))
task_told day w lunch n e = sym (ap task_said (rest_read w e))

-- the number of a stop's word has eight bits
abbrev StopSmall : Word → Type 0
StopSmall (vehicle k) = Unit {0}
StopSmall (stop k) = k < 256
StopSmall (tip k) = Unit {0}
StopSmall rest = Unit {0}
StopSmall back = Unit {0}
StopSmall (left k) = Unit {0}
StopSmall stray = Unit {0}

stop_small : (w : ℕ) (is : Word) → Apart w is → StopSmall is
stop_small w is (is_vehicle k h kind e) = tt
stop_small w is (is_stop k h kind e) = h
stop_small w is (is_tip k h kind e) = tt
stop_small w is (is_rest e r) = tt
stop_small w is (is_back e r) = tt
stop_small w is (is_left k h kind e) = tt
stop_small w is (is_stray r) = tt

pub stop_below : (w k : ℕ) → word_of w ≡ stop k → k < 256
stop_below w k e = subst StopSmall e (stop_small w (word_of w) (apart w))
