-- `day_bytes::bytes::write_words` meets its contract: the first i words stand at the buffer's front.
use Rattle.std.proofs.Common.{map, take}
use Rattle.std.specs.Int.{w32, from_le_bytes}
use Rattle.laws.specs.Buffer.{Wrote}
use Rattle.day_bytes.proofs.bytes.write_words.Given as goal

abbrev pub invariant-loop-i : goal.invariant-loop-i
invariant-loop-i l = Wrote (map (from_le_bytes w32) (take l.i l.chunks)) l.initial.words l.words l.i
