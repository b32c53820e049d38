-- `text_fields::is_word` meets its contract.
use Rattle.text_fields.proofs.Words.{word_told}
use Rattle.text_fields.proofs.is_word.Goals as goal

pub returns : goal.returns
returns c = word_told c.args.text.now c.args.word.now c.args.at c.field_end.ensures.end _ _ c.field_end.ensures.later c.get.ensures.lookup.0 c.unwrap_or_default-field.ensures c.eq.ensures
