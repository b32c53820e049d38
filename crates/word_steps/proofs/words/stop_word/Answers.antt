-- `word_steps::words::stop_word` meets its contract: form, then marks, then what the word does.
use borrow.Author.Rules.{rules}
use Rattle.word_steps.proofs.Forming.{stop_formed, known_below, known_some, known_most, misformed, met_again_lem, goes_on_lem}
use Rattle.word_steps.specs.Steps.{is_met_in}
use Rattle.word_steps.proofs.words.stop_word.Goals as goal

pub returns-then-not-s-is_within : goal.returns-then-not-s-is_within
returns-then-not-s-is_within c = search (misformed, stop_formed)

pub bounds-met-number : goal.bounds-met-number
bounds-met-number c = search known_below

pub returns-then-met-number : goal.returns-then-met-number
unfolding is_met_in
returns-then-met-number c = search (met_again_lem, stop_formed)

pub serve-requires : goal.serve-requires
serve-requires c = (search rules, search known_some, search known_most)

pub returns : goal.returns
unfolding is_met_in
returns c = search (goes_on_lem, stop_formed)
