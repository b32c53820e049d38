-- What a plan is: document 01, "vehicles, each A .. E with at least one B, then F words rising. Every stop stands exactly once, as B or F."
-- It mentions no walk. Assumes nothing.
use Rattle.std.specs.Prelude.{ℕ, suc, ◌≤◌, ◌<◌, ◌≡◌, List, [], ◌∷◌, ◌++◌, map, length}
use Rattle.rules.specs.Lists.{Every, times, Rising}
use Rattle.rules.specs.Fields.{tips, stops}
use Rattle.rules.specs.PlanWords.{vehicle_word, stop_word, tip_word, rest_word, back_word, left_word, Word, stop, tip, rest, read_plan}

-- what a vehicle does between leaving and coming back
pub data Task : Type 0 where
  serve : ℕ → Task
  empty : ℕ → Task
  lunch : Task

-- a vehicle's tasks, in order
abbrev pub Round : Type 0
Round = List Task

-- the word of a task: B, C or D
unfoldable pub task_word : Task → ℕ
task_word (serve k) = stop_word k
task_word (empty k) = tip_word k
task_word lunch = rest_word

-- the word of a task, taken apart
abbrev pub word_for : Task → Word
word_for (serve k) = stop k
word_for (empty k) = tip k
word_for lunch = rest

-- the words of one vehicle: "A .. E"
unfoldable pub round_words : ℕ → Round → List ℕ
round_words number tasks = vehicle_word number ∷ (map task_word tasks ++ (back_word ∷ []))

-- the words of the vehicles, "counted 1, 2, ..." from the one after a number
unfoldable pub rounds_words : ℕ → List Round → List ℕ
rounds_words before [] = []
rounds_words before (tasks ∷ rounds) = round_words (suc before) tasks ++ rounds_words (suc before) rounds

-- the plan: vehicles, then F words
unfoldable pub plan_words : List Round → List ℕ → List ℕ
plan_words rounds lefts = rounds_words 0 rounds ++ map left_word lefts

-- the stops of a vehicle, in order
unfoldable pub stops_on : Round → List ℕ
stops_on [] = []
stops_on (serve k ∷ tasks) = k ∷ stops_on tasks
stops_on (empty k ∷ tasks) = stops_on tasks
stops_on (lunch ∷ tasks) = stops_on tasks

-- the stops of all vehicles
unfoldable pub stops_on_all : List Round → List ℕ
stops_on_all [] = []
stops_on_all (tasks ∷ rounds) = stops_on tasks ++ stops_on_all rounds

-- a task's number is a stop's or a tip's
unfoldable pub Known : List ℕ → Task → Type 0
Known day (serve k) = (1 ≤ k) × (k ≤ stops day)
Known day (empty k) = (1 ≤ k) × (k ≤ tips day)
Known day lunch = Unit {0}

-- a plan of these vehicles and these stops left out has document 01's form
pub record Formed (day plan : List ℕ) (rounds : List Round) (lefts : List ℕ) : Type 0 where
  -- "a plan is at most 4,096 words"
  pub short : length plan ≤ 4096
  -- its words say, kind by kind and number by number, what those of the vehicles and the stops left out say
  pub text : read_plan plan ≡ read_plan (plan_words rounds lefts)
  pub known : Every (Every (Known day)) rounds
  -- "with at least one B"
  pub busy : Every (λ tasks. 0 < length (stops_on tasks)) rounds
  pub rising : Rising 0 lefts
  -- "every stop stands exactly once, as B or F", and no other number does
  pub once : (k : ℕ) → 1 ≤ k → k ≤ stops day → times k (stops_on_all rounds ++ lefts) ≡ 1
  pub others : Every (λ k. k ≤ stops day) lefts
