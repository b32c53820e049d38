-- Laws of the day's plan that is to be printed: it is what planning with trials answers, and has no more words than its buffer.
-- Assumes nothing.
use Rattle.std.specs.Prelude.{if◌then◌else◌}
use Prim.Native.Nat.{ℕ, ◌*◌, ◌≤◌}
use mathlib.Core.Path.{◌≡◌, refl, sym, ap₂, ◌∙◌}
use mathlib.Core.Bool.{Bool, true, false, false≢true}
use mathlib.Core.List.{List, [], ◌∷◌}
use native.Mathlib.Omega.{arith}
use lib.ListN.{length, length-replicate, get_or}
use Rattle.rules.specs.Answers.{given, refused, is_given}
use Rattle.rules.specs.DayFile.{judge_day}
use Rattle.rules.specs.Fields.{stops, IsAccepted}
use Rattle.rules.specs.Search.{searched}
use Rattle.rules.specs.Planned.{few_neighbours, long_enough, result_values, search_answer, plan_answer, plan_buffer}
use Rattle.day.proofs.Answered.{judged_accepted}
use Rattle.day.proofs.Ranges.{accepted_ranges}
use Rattle.search_steps.proofs.Promises.{promised}
use Rattle.text.specs.Lines.{answer_text, Within}
use Rattle.plan_text.specs.Planned.{empty_plan, printed_answer, printed_buffer}
use Rattle.plan_text.specs.Printed.{day_text}

empty_length : length empty_plan ≡ 1200
unfolding empty_plan
empty_length = length-replicate {A = ℕ} 1200 0

-- a plan that is told has no more words than its buffer
long_within : (t : Bool) (values : List ℕ) (need : ℕ) → get_or values 4 0 ≤ 1200 → Within (if t then given values else refused 14 need) 1200
long_within true values need few h = few
long_within false values need few h = absurd (false≢true h)

accepted_within : (day : List ℕ) → IsAccepted day → Within (search_answer day (5 ∷ []) 6 1200 1200) 1200
unfolding search_answer result_values
accepted_within day a =
    let fits = (promised day (5 ∷ []) 6 a).fits in
    long_within (long_enough day 1200 1200) (result_values day (searched day (5 ∷ []) 6)) (5 * stops day) (omega (arith, fits, (accepted_ranges day a).stops_most))

pub planned_within : (day : List ℕ) → Within (printed_answer day) 1200
unfolding printed_answer plan_answer few_neighbours
planned_within day = go (is_given (judge_day day)) refl
  where
    go : (b : Bool) → is_given (judge_day day) ≡ b → Within (if b then search_answer day (5 ∷ []) 6 1200 1200 else judge_day day) 1200
    go true e = accepted_within day (judged_accepted day e)
    go false e = λ h. absurd (false≢true (sym e ∙ h))

-- the call's answer and buffer are those that are printed, and the text of a day is theirs
module _ (day : List ℕ) {answer : List ℕ} (e : answer ≡ plan_answer day 5 6 (length empty_plan) (length empty_plan)) where
  answer_is : answer ≡ printed_answer day
  unfolding printed_answer
  answer_is = e ∙ rw empty_length refl

  pub day_within : (plan : List ℕ) → length plan ≡ length empty_plan → Within answer (length plan)
  day_within plan l = rw (answer_is, l, empty_length) (planned_within day)

  pub day_told : {plan : List ℕ} → plan ≡ plan_buffer day 5 6 (length empty_plan) empty_plan → answer_text answer plan ≡ day_text day
  unfolding day_text printed_buffer
  day_told b = ap₂ answer_text answer_is (b ∙ rw empty_length refl)
