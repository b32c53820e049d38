-- `candidates::copy_words` meets its contract: the first i words stand at the part's front.
use Rattle.std.proofs.Common.{take}
use Rattle.laws.specs.Buffer.{Wrote}
use Rattle.candidates.proofs.copy_words.Given as goal

abbrev pub invariant-loop-i : goal.invariant-loop-i
invariant-loop-i l = Wrote (take l.i l.words) l.initial.part l.part l.i
