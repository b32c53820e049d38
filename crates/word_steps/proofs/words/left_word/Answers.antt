-- `word_steps::words::left_word` meets its contract: form, then marks, then what the word does.
use Rattle.word_steps.proofs.Forming.{left_formed, left_below, misformed, met_again_lem, goes_on_lem}
use Rattle.word_steps.proofs.Stepping.{left_over}
use Rattle.word_steps.specs.Steps.{is_met_in}
use Rattle.word_steps.proofs.words.left_word.Goals as goal

pub returns-then-not-y-is_within : goal.returns-then-not-y-is_within
returns-then-not-y-is_within c = search (misformed, left_formed)

pub bounds-met-at : goal.bounds-met-at
bounds-met-at c = search left_below

pub returns-then-met-at : goal.returns-then-met-at
unfolding is_met_in
returns-then-met-at c = search (met_again_lem, left_formed)

pub returns : goal.returns
unfolding is_met_in
returns c = search (goes_on_lem, left_formed, left_over)
