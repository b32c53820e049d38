-- `Instance::write_legs` meets its contract: the rows so far are written.
use Rattle.std.proofs.Common.{arith}
use Rattle.solomon_words.proofs.WayLaws.{rows_begun, rows_begin, rows_more, rows_end}
use Rattle.solomon_words.proofs.Instance.write_legs.Goals as goal

pub loop-from-init : goal.loop-from-init
loop-from-init c = rows_begun c.args.self.now _ c.requires.room c.requires.begins

pub write_row-requires-clause-begins : goal.write_row-requires-clause-begins
write_row-requires-clause-begins c = rows_begin c.args.self.now _ _ c.loop-from.invariant

pub loop-from-preserved : goal.loop-from-preserved
loop-from-preserved c = rows_more c.args.self.now _ _ c.loop-from.invariant (omega arith) c.requires.room c.write_row.ensures

pub returns : goal.returns
returns c = rows_end c.args.self.now _ _ c.loop-from.invariant (omega arith) (omega arith)
