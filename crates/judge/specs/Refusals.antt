-- The number and the place of a refusal, by its reason. They serve contracts; no definition of the day rests on them. Assumes nothing.
use Rattle.std.specs.Prelude.{ℕ}
use Rattle.rules.specs.Faults.{day_fault_number}
use Rattle.judge.specs.declared.Refusal.{Refusal}
use Rattle.judge.specs.declared.Refusal.TheVariants.{Short, Sizes, Length, Word}

abbrev pub refusal_number : Refusal → ℕ
refusal_number (Short words) = 1
refusal_number Sizes = 3
refusal_number (Length words) = 4
refusal_number (Word found) = day_fault_number found.fault

abbrev pub refusal_place : Refusal → ℕ
refusal_place (Short words) = words
refusal_place Sizes = 0
refusal_place (Length words) = words
refusal_place (Word found) = found.place
