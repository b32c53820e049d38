-- `word_steps::words::rest_word` meets its contract: form, then what the word does.
use borrow.Author.Tests.{not-true, not-false}
use Rattle.word_steps.proofs.Forming.{rest_formed, misformed, goes_on_lem}
use Rattle.word_steps.specs.Steps.{is_met_in}
use Rattle.word_steps.proofs.words.rest_word.Goals as goal

pub returns-then-not-s : goal.returns-then-not-s
returns-then-not-s c = λ met. search (misformed, rest_formed, not-true)

pub returns : goal.returns
unfolding is_met_in
returns c = λ met. search (goes_on_lem, rest_formed, not-false)
