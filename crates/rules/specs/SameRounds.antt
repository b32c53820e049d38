-- Same rounds: document 01, "two lawful plans whose vehicles, in order, visit the same stops in order; tips and rests don't count".
-- Assumes nothing.
use Rattle.std.specs.Prelude.{ℕ, ◌+◌, ◌≡◌, Bool, true, false, List, [], ◌∷◌, map, length, get_or, if◌then◌else◌}
use Rattle.rules.specs.Answers.{given, refused, is_given}
use Rattle.rules.specs.PlanWords.{Word, vehicle, stop, tip, rest, back, left, stray, word_of, same_word}
use Rattle.rules.specs.Plan.{Task, serve, empty, lunch, Round}
use Rattle.rules.specs.Lawful.{Lawful}
use Rattle.rules.specs.Check.{check_plan}

-- what counts of a vehicle's tasks: the stops that it visits
abbrev pub is_visit : Task → Bool
is_visit (serve k) = true
is_visit (empty k) = false
is_visit lunch = false

-- the tasks of a vehicle that count by a test
unfoldable pub those : (Task → Bool) → Round → Round
those test [] = []
those test (task ∷ tasks) = if test task then task ∷ those test tasks else those test tasks

-- "two lawful plans whose vehicles, in order, visit the same stops in order", by a test of what counts
pub record SameBy (test : Task → Bool) (day first second : List ℕ) : Type 0 where
  pub one : Lawful day first
  pub two : Lawful day second
  pub same : map (those test) one.rounds ≡ map (those test) two.rounds

-- the same of words: vehicles, and the tasks that count
abbrev pub counts : (Task → Bool) → Word → Bool
counts test (vehicle k) = true
counts test (stop k) = test (serve k)
counts test (tip k) = test (empty k)
counts test rest = test lunch
counts test back = false
counts test (left k) = false
counts test stray = false

-- the words of a plan that count, in order
unfoldable pub counted : (Task → Bool) → List ℕ → List ℕ
counted test [] = []
counted test (w ∷ ws) = if counts test (word_of w) then w ∷ counted test ws else counted test ws

-- two lists of words say the same
unfoldable pub same_words : List ℕ → List ℕ → Bool
same_words [] [] = true
same_words [] (y ∷ ys) = false
same_words (x ∷ xs) [] = false
same_words (x ∷ xs) (y ∷ ys) = if same_word x y then same_words xs ys else false

-- a refusal of the second plan: its "places count on from the first's length"
abbrev pub behind : ℕ → List ℕ → List ℕ
behind by answer = refused (get_or answer 0 0) (get_or answer 1 0 + by)

-- the answer once the first plan is known to be lawful: 1 for the same rounds, 0 for others
unfoldable pub second_answer : List ℕ → List ℕ → List ℕ → List ℕ
second_answer day first second =
    if is_given (check_plan day second) then given ((if same_words (counted is_visit first) (counted is_visit second) then 1 else 0) ∷ [])
    else behind (length first) (check_plan day second)

-- "the first plan is judged before the second"
unfoldable pub same_rounds : List ℕ → List ℕ → List ℕ → List ℕ
same_rounds day first second = if is_given (check_plan day first) then second_answer day first second else check_plan day first
