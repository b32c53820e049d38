-- What each answer says, as numbers: document 01's refusal number and place, or 0 and the values. An answer of the code is an enum,
-- and a promise speaks of its values. Assumes nothing.
use Rattle.std.specs.Prelude.{ℕ, ◌≤◌, List, [], ◌∷◌, if◌then◌else◌}
use Rattle.rules.specs.Answers.{given, refused}
use Rattle.rules.specs.declared.answers.Answer.{Answer}
use Rattle.rules.specs.declared.answers.Answer.TheVariants as Answers
use Rattle.rules.specs.declared.answers.DayAnswer.{DayAnswer}
use Rattle.rules.specs.declared.answers.DayAnswer.TheVariants as Days
use Rattle.rules.specs.declared.answers.ImportAnswer.{ImportAnswer}
use Rattle.rules.specs.declared.answers.ImportAnswer.TheVariants as Imports
use Rattle.rules.specs.declared.answers.PlaceAnswer.{PlaceAnswer}
use Rattle.rules.specs.declared.answers.PlaceAnswer.TheVariants as Places
use Rattle.rules.specs.declared.answers.PlanAnswer.{PlanAnswer}
use Rattle.rules.specs.declared.answers.PlanAnswer.TheVariants as Plans
use Rattle.rules.specs.declared.answers.RoundsAnswer.{RoundsAnswer}
use Rattle.rules.specs.declared.answers.RoundsAnswer.TheVariants as Compared
use Rattle.rules.specs.declared.answers.WordsAnswer.{WordsAnswer}
use Rattle.rules.specs.declared.answers.WordsAnswer.TheVariants as Reads

-- the answer on a day: its stops and tips
abbrev pub day_values : DayAnswer → List ℕ
day_values (Days.Accepted stops tips) = given (stops ∷ tips ∷ [])
day_values (Days.Refused number place) = refused number place

-- the answer to byte reading: how many words
abbrev pub words_values : WordsAnswer → List ℕ
words_values (Reads.Read words) = given (words ∷ [])
words_values (Reads.Refused number place) = refused number place

-- refusals are numbered from 1 on: a refusal of number 0 would have the values of an answer
abbrev pub WordsNumbered : WordsAnswer → Type 0
WordsNumbered (Reads.Read words) = Unit {0}
WordsNumbered (Reads.Refused number place) = 1 ≤ number

-- the answer to an import: how many words
abbrev pub import_values : ImportAnswer → List ℕ
import_values (Imports.Read words) = given (words ∷ [])
import_values (Imports.Refused number place) = refused number place

-- refusals are numbered from 1 on
abbrev pub ImportNumbered : ImportAnswer → Type 0
ImportNumbered (Imports.Read words) = Unit {0}
ImportNumbered (Imports.Refused number place) = 1 ≤ number

-- distance, vehicles and stops served
abbrev pub answer_values : Answer → List ℕ
answer_values (Answers.Lawful distance vehicles served) = given (distance ∷ vehicles ∷ served ∷ [])
answer_values (Answers.Refused number place) = refused number place

-- where the vehicle's words start, and how many they are
abbrev pub place_values : PlaceAnswer → List ℕ
place_values (Places.Found start length) = given (start ∷ length ∷ [])
place_values (Places.Refused number place) = refused number place

-- 1 for the same rounds, 0 for others
abbrev pub rounds_values : RoundsAnswer → List ℕ
rounds_values Compared.Same = given (1 ∷ [])
rounds_values Compared.Different = given (0 ∷ [])
rounds_values (Compared.Refused number place) = refused number place

-- refusals are numbered from 1 on: a refusal of number 0 would have the values of an answer
abbrev pub RoundsNumbered : RoundsAnswer → Type 0
RoundsNumbered Compared.Same = Unit {0}
RoundsNumbered Compared.Different = Unit {0}
RoundsNumbered (Compared.Refused number place) = 1 ≤ number

-- distance, trials, 1 where the plan is settled and else 0, stops left out, words
abbrev pub plan_values : PlanAnswer → List ℕ
plan_values (Plans.Planned distance trials settled left words) = given (distance ∷ trials ∷ (if settled then 1 else 0) ∷ left ∷ words ∷ [])
plan_values (Plans.Refused number place) = refused number place
