-- Laws of the whole check: the day's refusal stands, and an accepted day's plan is walked. Assumes nothing.
use Prim.Native.Nat.{ℕ, ◌+◌}
use mathlib.Core.Path.{◌≡◌, refl}
use mathlib.Core.List.{List}
use denote.Enum.Declared.{tag_of}
use Rattle.rules.specs.contracts.faults.PlanFault.{the_type}
use Rattle.rules.specs.Answers.{refused}
use Rattle.rules.specs.DayFile.{judge_day}
use Rattle.rules.specs.Fields.{IsAccepted}
use Rattle.rules.specs.Check.{check_words, check_plan}
use Rattle.rules.specs.Faults.{plan_fault_number}
use Rattle.rules.specs.declared.faults.PlanFault.{PlanFault}
use Rattle.rules.specs.declared.faults.PlanFault.TheVariants as Faults
use Rattle.day.proofs.Answered.{refused_not_given}

module _ (day plan : List ℕ) where
  pub day_refused : {number place : ℕ} → refused number place ≡ judge_day day → refused number place ≡ check_plan day plan
  unfolding check_plan
  day_refused same = rw (refused_not_given day same) same

  pub day_accepted : IsAccepted day → {laid : List ℕ} → laid ≡ day → (answer : List ℕ) → answer ≡ check_words laid plan → answer ≡ check_plan day plan
  unfolding check_plan
  day_accepted accepted same answer h = rw accepted (rw same at h)

-- a fault as a number is its refusal's
pub fault_told : (f : PlanFault) → tag_of the_type f + 7 ≡ plan_fault_number f
fault_told Faults.Form = refl
fault_told Faults.Stop = refl
fault_told Faults.Limit = refl
fault_told Faults.Load = refl
fault_told Faults.Late = refl
fault_told Faults.Rest = refl
