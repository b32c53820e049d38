-- The values of an answer determine it, so that a contract that equates values leaves one answer. Where a number of words or of the same rounds
-- could be taken for a refusal, the refusal's number, which is at least 1, tells them apart. Assumes nothing.
use mathlib.Core.Path.{◌≡◌}
use mathlib.Core.Bool.{true, false}
use native.Mathlib.Omega.{arith}
use Rattle.rules.specs.AnswerValues.{words_values, WordsNumbered, import_values, ImportNumbered, day_values, answer_values, place_values, rounds_values, RoundsNumbered, plan_values}
use Rattle.rules.specs.declared.answers.Answer.TheVariants as Answers
use Rattle.rules.specs.declared.answers.Answer.{Answer}
use Rattle.rules.specs.declared.answers.DayAnswer.TheVariants as Days
use Rattle.rules.specs.declared.answers.DayAnswer.{DayAnswer}
use Rattle.rules.specs.declared.answers.ImportAnswer.TheVariants as Imports
use Rattle.rules.specs.declared.answers.ImportAnswer.{ImportAnswer}
use Rattle.rules.specs.declared.answers.PlaceAnswer.TheVariants as Places
use Rattle.rules.specs.declared.answers.PlaceAnswer.{PlaceAnswer}
use Rattle.rules.specs.declared.answers.PlanAnswer.TheVariants as Plans
use Rattle.rules.specs.declared.answers.PlanAnswer.{PlanAnswer}
use Rattle.rules.specs.declared.answers.RoundsAnswer.TheVariants as Compared
use Rattle.rules.specs.declared.answers.RoundsAnswer.{RoundsAnswer}
use Rattle.rules.specs.declared.answers.WordsAnswer.TheVariants as Reads
use Rattle.rules.specs.declared.answers.WordsAnswer.{WordsAnswer}

-- to byte reading
pub words_told_apart : (a b : WordsAnswer) → words_values a ≡ words_values b → WordsNumbered a → WordsNumbered b → a ≡ b
words_told_apart (Reads.Read m) (Reads.Read n) e h g = cc
words_told_apart (Reads.Read m) (Reads.Refused k i) e h g = let z : 0 ≡ k = cc in absurd (omega arith)
words_told_apart (Reads.Refused k i) (Reads.Read n) e h g = let z : k ≡ 0 = cc in absurd (omega arith)
words_told_apart (Reads.Refused k i) (Reads.Refused l j) e h g = cc

-- to an import
pub import_told_apart : (a b : ImportAnswer) → import_values a ≡ import_values b → ImportNumbered a → ImportNumbered b → a ≡ b
import_told_apart (Imports.Read m) (Imports.Read n) e h g = cc
import_told_apart (Imports.Read m) (Imports.Refused k i) e h g = let z : 0 ≡ k = cc in absurd (omega arith)
import_told_apart (Imports.Refused k i) (Imports.Read n) e h g = let z : k ≡ 0 = cc in absurd (omega arith)
import_told_apart (Imports.Refused k i) (Imports.Refused l j) e h g = cc

-- on a day
pub day_told_apart : (a b : DayAnswer) → day_values a ≡ day_values b → a ≡ b
day_told_apart (Days.Accepted n d) (Days.Accepted m c) e = cc
day_told_apart (Days.Accepted n d) (Days.Refused k i) e = cc
day_told_apart (Days.Refused k i) (Days.Accepted n d) e = cc
day_told_apart (Days.Refused k i) (Days.Refused l j) e = cc

-- on a plan
pub answer_told_apart : (a b : Answer) → answer_values a ≡ answer_values b → a ≡ b
answer_told_apart (Answers.Lawful x v s) (Answers.Lawful y w t) e = cc
answer_told_apart (Answers.Lawful x v s) (Answers.Refused k i) e = cc
answer_told_apart (Answers.Refused k i) (Answers.Lawful x v s) e = cc
answer_told_apart (Answers.Refused k i) (Answers.Refused l j) e = cc

-- on one vehicle
pub place_told_apart : (a b : PlaceAnswer) → place_values a ≡ place_values b → a ≡ b
place_told_apart (Places.Found s n) (Places.Found t m) e = cc
place_told_apart (Places.Found s n) (Places.Refused k i) e = cc
place_told_apart (Places.Refused k i) (Places.Found s n) e = cc
place_told_apart (Places.Refused k i) (Places.Refused l j) e = cc

-- on the rounds of two plans
pub rounds_told_apart : (a b : RoundsAnswer) → rounds_values a ≡ rounds_values b → RoundsNumbered a → RoundsNumbered b → a ≡ b
rounds_told_apart Compared.Same Compared.Same e h g = cc
rounds_told_apart Compared.Same Compared.Different e h g = cc
rounds_told_apart Compared.Same (Compared.Refused k i) e h g = let z : 0 ≡ k = cc in absurd (omega arith)
rounds_told_apart Compared.Different Compared.Same e h g = cc
rounds_told_apart Compared.Different Compared.Different e h g = cc
rounds_told_apart Compared.Different (Compared.Refused k i) e h g = let z : 0 ≡ k = cc in absurd (omega arith)
rounds_told_apart (Compared.Refused k i) Compared.Same e h g = let z : k ≡ 0 = cc in absurd (omega arith)
rounds_told_apart (Compared.Refused k i) Compared.Different e h g = let z : k ≡ 0 = cc in absurd (omega arith)
rounds_told_apart (Compared.Refused k i) (Compared.Refused l j) e h g = cc

-- on a planned day
pub plan_told_apart : (a b : PlanAnswer) → plan_values a ≡ plan_values b → a ≡ b
plan_told_apart (Plans.Planned x t true l w) (Plans.Planned y u true m v) e = cc
plan_told_apart (Plans.Planned x t true l w) (Plans.Planned y u false m v) e = cc
plan_told_apart (Plans.Planned x t false l w) (Plans.Planned y u true m v) e = cc
plan_told_apart (Plans.Planned x t false l w) (Plans.Planned y u false m v) e = cc
plan_told_apart (Plans.Planned x t s l w) (Plans.Refused k i) e = cc
plan_told_apart (Plans.Refused k i) (Plans.Planned x t s l w) e = cc
plan_told_apart (Plans.Refused k i) (Plans.Refused l j) e = cc
