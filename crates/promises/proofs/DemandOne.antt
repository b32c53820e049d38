-- Demand 1: "a day file or plan, of any words and any length, handed in with any buffers and any settings, gets an answer or one of refusals
-- 1 to 15 of document 01 (and those that requests add); after a refusal every lent buffer holds what it held before". Document 02 adds 17 and
-- 18, of texts. Each call by its own numbers. An answer is said by its values, and the contract of each call equates these with a definition
-- of the rules. Assumes nothing.
use Prim.Native.Nat.{ℕ}
use mathlib.Core.Path.{◌≡◌, sym, ap, ◌∙◌}
use mathlib.Core.Bool.{false}
use mathlib.Core.List.{List, [], ◌∷◌}
use lib.ListN.{length}
use Rattle.rules.specs.Answers.{is_given}
use Rattle.rules.specs.DayFile.{judge_day}
use Rattle.rules.specs.Check.{check_plan}
use Rattle.rules.specs.Bytes.{read_answer, read_buffer}
use Rattle.rules.specs.VehiclePlace.{vehicle_place}
use Rattle.rules.specs.SameRounds.{same_rounds}
use Rattle.rules.specs.SolomonDay.{import_answer, import_buffer}
use Rattle.rules.specs.Planned.{build_answer, build_buffer, plan_answer, plan_buffer, growing_answer, growing_buffer, SpareKept}
use Rattle.rules.specs.Demands.{AnswersBy}
use Rattle.plan_laws.proofs.Numbers.{read_numbers, judge_numbers, check_numbers, vehicle_numbers_lem, same_numbers, build_numbers, plan_numbers_lem, growing_numbers}
use Rattle.solomon.proofs.Importing.{import_numbers, import_kept}
use Rattle.plan_laws.proofs.Refused.{read_kept, build_kept, plan_kept, growing_kept}

-- "an answer or one of refusals": byte reading 1, 14
pub read_answers : (bytes answer : List ℕ) (room : ℕ) → answer ≡ read_answer bytes room → AnswersBy (1 ∷ 14 ∷ []) answer
read_answers bytes answer room e = rw e (read_numbers bytes room)

-- the judge 1 to 5
pub judge_answers : (day answer : List ℕ) → answer ≡ judge_day day → AnswersBy (1 ∷ 2 ∷ 3 ∷ 4 ∷ 5 ∷ []) answer
judge_answers day answer e = rw e (judge_numbers day)

-- the check 1 to 12
pub check_answers : (day plan answer : List ℕ) → answer ≡ check_plan day plan
    → AnswersBy (1 ∷ 2 ∷ 3 ∷ 4 ∷ 5 ∷ 6 ∷ 7 ∷ 8 ∷ 9 ∷ 10 ∷ 11 ∷ 12 ∷ []) answer
check_answers day plan answer e = rw e (check_numbers day plan)

-- one vehicle's words 1 to 12, 15
pub vehicle_answers : (day plan answer : List ℕ) (number : ℕ) → answer ≡ vehicle_place day plan number
    → AnswersBy (1 ∷ 2 ∷ 3 ∷ 4 ∷ 5 ∷ 6 ∷ 7 ∷ 8 ∷ 9 ∷ 10 ∷ 11 ∷ 12 ∷ 15 ∷ []) answer
vehicle_answers day plan answer number e = rw e (vehicle_numbers_lem day plan number)

-- same rounds 1 to 12
pub same_answers : (day first second answer : List ℕ) → answer ≡ same_rounds day first second
    → AnswersBy (1 ∷ 2 ∷ 3 ∷ 4 ∷ 5 ∷ 6 ∷ 7 ∷ 8 ∷ 9 ∷ 10 ∷ 11 ∷ 12 ∷ []) answer
same_answers day first second answer e = rw e (same_numbers day first second)

-- the build 1 to 5, 14
pub build_answers : (day answer : List ℕ) (room : ℕ) → answer ≡ build_answer day room → AnswersBy (1 ∷ 2 ∷ 3 ∷ 4 ∷ 5 ∷ 14 ∷ []) answer
build_answers day answer room e = rw e (build_numbers day room)

-- planning with trials 1 to 5, 13, 14
pub plan_answers : (day answer : List ℕ) (K budget room spare : ℕ) → answer ≡ plan_answer day K budget room spare
    → AnswersBy (1 ∷ 2 ∷ 3 ∷ 4 ∷ 5 ∷ 13 ∷ 14 ∷ []) answer
plan_answers day answer K budget room spare e = rw e (plan_numbers_lem day K budget room spare)

-- with growing neighbour sets 1 to 5, 14
pub growing_answers : (day answer : List ℕ) (budget room spare : ℕ) → answer ≡ growing_answer day budget room spare
    → AnswersBy (1 ∷ 2 ∷ 3 ∷ 4 ∷ 5 ∷ 14 ∷ []) answer
growing_answers day answer budget room spare e = rw e (growing_numbers day budget room spare)

-- an import 14, 17, 18
pub import_answers : (text answer : List ℕ) (room : ℕ) → answer ≡ import_answer text room → AnswersBy (14 ∷ 17 ∷ 18 ∷ []) answer
import_answers text answer room e = rw e (import_numbers text room)

-- "after a refusal every lent buffer holds what it held before": byte reading's words
pub read_keeps : (bytes words now answer : List ℕ) → answer ≡ read_answer bytes (length words) → now ≡ read_buffer bytes words
    → is_given answer ≡ false → now ≡ words
read_keeps bytes words now answer e buffer nothing = buffer ∙ read_kept bytes words (sym (ap is_given e) ∙ nothing)

-- an import's words
pub import_keeps : (text words now answer : List ℕ) → answer ≡ import_answer text (length words) → now ≡ import_buffer text words
    → is_given answer ≡ false → now ≡ words
import_keeps text words now answer e buffer nothing = buffer ∙ import_kept text words (sym (ap is_given e) ∙ nothing)

-- the build's plan
pub build_keeps : (day plan now answer : List ℕ) → answer ≡ build_answer day (length plan) → now ≡ build_buffer day plan
    → is_given answer ≡ false → now ≡ plan
build_keeps day plan now answer e buffer nothing = buffer ∙ build_kept day plan (sym (ap is_given e) ∙ nothing)

-- the plan of planning with trials, with one K or growing sets, and the working buffer
pub plan_keeps : (day plan now answer : List ℕ) (K budget spare : ℕ) → answer ≡ plan_answer day K budget (length plan) spare
    → now ≡ plan_buffer day K budget spare plan → is_given answer ≡ false → now ≡ plan
plan_keeps day plan now answer K budget spare e buffer nothing = buffer ∙ plan_kept day K budget spare plan (sym (ap is_given e) ∙ nothing)

pub growing_keeps : (day plan now answer : List ℕ) (budget spare : ℕ) → answer ≡ growing_answer day budget (length plan) spare
    → now ≡ growing_buffer day budget spare plan → is_given answer ≡ false → now ≡ plan
growing_keeps day plan now answer budget spare e buffer nothing = buffer ∙ growing_kept day budget spare plan (sym (ap is_given e) ∙ nothing)

pub plan_keeps_work : (answer told work now : List ℕ) → answer ≡ told → SpareKept told work now → is_given answer ≡ false → now ≡ work
plan_keeps_work answer told work now e kept nothing = kept (sym (ap is_given e) ∙ nothing)
