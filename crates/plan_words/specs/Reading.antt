-- What a word as the code takes it apart says, and the task that it says. It serves the contracts of `read_word` and of those who ask for tasks.
-- Assumes nothing.
use Rattle.std.specs.Prelude.{Option, Some, None}
use Rattle.rules.specs.PlanWords.{Word, vehicle, stop, tip, rest, back, left, stray}
use Rattle.rules.specs.Plan.{Task, serve, empty, lunch}
use Rattle.plan_words.specs.declared.PlanWord.{PlanWord}
use Rattle.plan_words.specs.declared.PlanWord.TheVariants as Words

-- the word of the rules that it is
abbrev pub meaning : Option PlanWord → Word
meaning (Some (Words.Vehicle k)) = vehicle k
meaning (Some (Words.Stop k)) = stop k
meaning (Some (Words.Tip k)) = tip k
meaning (Some Words.Rest) = rest
meaning (Some Words.Back) = back
meaning (Some (Words.Left k)) = left k
meaning None = stray

-- the task that a word says; a rest, where it says none
abbrev pub task_said : Word → Task
task_said (vehicle k) = lunch
task_said (stop k) = serve k
task_said (tip k) = empty k
task_said rest = lunch
task_said back = lunch
task_said (left k) = lunch
task_said stray = lunch
