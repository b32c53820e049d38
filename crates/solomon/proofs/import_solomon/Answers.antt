-- `solomon::import_solomon` meets its contract: one law for each way through it.
use borrow.Author.Rules.{rules}
use Rattle.solomon.proofs.ImportLaws.{found_right, found_few, found_stops, import_refused, refused_kept, import_short, import_read}
use Rattle.solomon.proofs.import_solomon.Goals as goal

pub returns-in-Err-clause-answer : goal.returns-in-Err-clause-answer
returns-in-Err-clause-answer c = import_refused _ c.args.words.now c.in-Err.ensures (search rules)

pub returns-in-Err-clause-buffer : goal.returns-in-Err-clause-buffer
returns-in-Err-clause-buffer c = refused_kept _ _ c.in-Err.ensures

pub words_needed-total-requires : goal.words_needed-total-requires
words_needed-total-requires c = found_few _ c.args.words.now c.in-Ok.ensures

pub returns-then-words-total-clause-answer : goal.returns-then-words-total-clause-answer
returns-then-words-total-clause-answer c = (import_short _ c.args.words.now c.in-Ok.ensures c.words_needed-total.ensures c.if-words-total.true).0

pub returns-then-words-total-clause-buffer : goal.returns-then-words-total-clause-buffer
returns-then-words-total-clause-buffer c = (import_short _ c.args.words.now c.in-Ok.ensures c.words_needed-total.ensures c.if-words-total.true).1

pub write_import-requires : goal.write_import-requires
write_import-requires c = (found_right _ c.args.words.now c.in-Ok.ensures, found_stops _ c.args.words.now c.in-Ok.ensures, search rules)

pub returns-clause-answer : goal.returns-clause-answer
returns-clause-answer c =
    (import_read _ c.args.words.now c.in-Ok.ensures c.words_needed-total.ensures c.if-words-total.false c.write_import.ensures).0

pub returns-clause-buffer : goal.returns-clause-buffer
returns-clause-buffer c =
    (import_read _ c.args.words.now c.in-Ok.ensures c.words_needed-total.ensures c.if-words-total.false c.write_import.ensures).1
