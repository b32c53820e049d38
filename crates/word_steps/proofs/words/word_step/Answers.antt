-- `word_steps::words::word_step` meets its contract: the words that name no stop, and a stray word.
use Rattle.word_steps.proofs.Forming.{any_word, as_stray}
use Rattle.word_steps.proofs.words.word_step.Goals as goal

pub returns-in-Some-Vehicle : goal.returns-in-Some-Vehicle
returns-in-Some-Vehicle c = any_word _ _ _ _ _ c.in-Some-Vehicle.ensures c.in-Some-Vehicle.field-0-is c.vehicle_word.ensures

pub returns-in-Some-Tip : goal.returns-in-Some-Tip
returns-in-Some-Tip c = any_word _ _ _ _ _ c.in-Some-Tip.ensures c.in-Some-Tip.field-0-is c.tip_word.ensures

pub returns-in-Some-Rest : goal.returns-in-Some-Rest
returns-in-Some-Rest c = any_word _ _ _ _ _ c.in-Some-Rest.ensures c.in-Some-Rest.field-0-is c.rest_word.ensures

pub returns-in-Some-Back : goal.returns-in-Some-Back
returns-in-Some-Back c = any_word _ _ _ _ _ c.in-Some-Back.ensures c.in-Some-Back.field-0-is c.back_word.ensures

pub returns-in-None : goal.returns-in-None
returns-in-None c = as_stray _ _ _ _ c.in-None.ensures
