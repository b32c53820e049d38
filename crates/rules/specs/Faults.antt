-- The number of each fault's refusal, and of a result that may be a fault. Assumes nothing.
use Rattle.std.specs.Prelude.{ℕ, Result, Ok, Err}
use Rattle.rules.specs.declared.faults.DayFault.{DayFault}
use Rattle.rules.specs.declared.faults.DayFault.TheVariants as Days
use Rattle.rules.specs.declared.faults.PlanFault.{PlanFault}
use Rattle.rules.specs.declared.faults.PlanFault.TheVariants as Plans
use Rattle.rules.specs.declared.faults.TextFault.{TextFault}
use Rattle.rules.specs.declared.faults.TextFault.TheVariants as Texts

-- a day's word
abbrev pub day_fault_number : DayFault → ℕ
day_fault_number Days.Form = 2
day_fault_number Days.Range = 5

-- a plan's word
abbrev pub plan_fault_number : PlanFault → ℕ
plan_fault_number Plans.Form = 7
plan_fault_number Plans.Stop = 8
plan_fault_number Plans.Limit = 9
plan_fault_number Plans.Load = 10
plan_fault_number Plans.Late = 11
plan_fault_number Plans.Rest = 12

-- a text's field
abbrev pub text_fault_number : TextFault → ℕ
text_fault_number Texts.Form = 17
text_fault_number Texts.Range = 18

-- the number of the fault that a result carries, and 0 for none
abbrev pub number_of_fault : {A F : Type 0} → (F → ℕ) → Result A F → ℕ
number_of_fault number (Ok _) = 0
number_of_fault number (Err fault) = number fault
