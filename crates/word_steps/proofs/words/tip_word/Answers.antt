-- `word_steps::words::tip_word` meets its contract: form, then what the word does.
use borrow.Author.Rules.{rules}
use Rattle.word_steps.proofs.Forming.{tip_formed, known_some, known_most, misformed, goes_on_lem}
use Rattle.word_steps.specs.Steps.{is_met_in}
use Rattle.word_steps.proofs.words.tip_word.Goals as goal

pub returns-then-not-s-is_within : goal.returns-then-not-s-is_within
returns-then-not-s-is_within c = λ met. search (misformed, tip_formed)

pub empty_out-requires : goal.empty_out-requires
empty_out-requires c = (search rules, search known_some, search known_most)

pub returns : goal.returns
unfolding is_met_in
returns c = λ met. search (goes_on_lem, tip_formed)
