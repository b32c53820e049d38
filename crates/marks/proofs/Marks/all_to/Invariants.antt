-- `Marks::all_to` marks the numbers 1 to n: after k turns the set is 1 to k.
use mathlib.Core.Path.{◌≡◌}
use Rattle.laws.specs.Marks.{up_to, marked, ones_of}
use Rattle.marks.proofs.Marks.all_to.Given as goal

abbrev pub invariant-loop-k : goal.invariant-loop-k
invariant-loop-k l = record { marks : marked l.marks.words ≡ up_to l.k; count : ones_of l.marks.words ≡ l.k }
