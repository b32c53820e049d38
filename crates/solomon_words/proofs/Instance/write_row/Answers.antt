-- `Instance::write_row` meets its contract: the words in front of the leg are written.
use Rattle.std.proofs.Common.{◌+◌, refl, arith}
use Rattle.solomon_words.specs.Instances.{stops_in}
use Rattle.solomon_words.proofs.WayLaws.{leg_within, row_begun, leg_asked, leg_written, row_written}
use Rattle.solomon_words.proofs.Instance.write_row.Goals as goal

pub loop-to-init : goal.loop-to-init
loop-to-init c = row_begun c.args.self.now _ _ _ c.requires.row refl c.requires.room c.requires.begins

pub leg_word-requires : goal.leg_word-requires
leg_word-requires c = leg_asked c.args.self.now _ _ _ c.loop-to.invariant c.requires.room c.requires.row (omega arith)

pub bounds-words-row : goal.bounds-words-row
bounds-words-row c = omega (arith, leg_within c.args.from (2 + stops_in c.args.self.now) c.loop-to.to c.requires.row (omega arith))

pub loop-to-preserved : goal.loop-to-preserved
loop-to-preserved c =
    leg_written c.args.self.now _ _ _ c.loop-to.invariant c.requires.room c.requires.row (omega arith) c.row_at-row.ensures c.leg_word.ensures

pub returns : goal.returns
returns c = row_written c.args.self.now _ _ _ c.loop-to.invariant c.requires.room c.requires.row (omega arith) (omega arith)
