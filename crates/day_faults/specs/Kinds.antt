-- The number of each kind of a day's word: document 01, "Day file". Assumes nothing.
use Rattle.std.specs.Prelude.{ℕ}
use Rattle.day_faults.specs.declared.words.Kind.{Kind}
use Rattle.day_faults.specs.declared.words.Kind.TheVariants as Kinds

abbrev pub kind_number : Kind → ℕ
kind_number Kinds.Load = 2
kind_number Kinds.DayKg = 3
kind_number Kinds.Stops = 4
kind_number Kinds.Window = 5
kind_number Kinds.Rest = 6
kind_number Kinds.Minutes = 7
kind_number Kinds.Quantity = 8
kind_number Kinds.Leg = 9
