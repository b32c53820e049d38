-- `word_steps::words::back_word` meets its contract: form, then what the word does.
use Rattle.word_steps.proofs.Forming.{back_formed, misformed, goes_on_lem}
use Rattle.word_steps.specs.Steps.{is_met_in}
use Rattle.word_steps.proofs.words.back_word.Goals as goal

pub returns-then-not-s : goal.returns-then-not-s
returns-then-not-s c = λ met. search (misformed, back_formed)

pub returns : goal.returns
unfolding is_met_in
returns c = λ met. search (goes_on_lem, back_formed)
