-- `word_steps::words::vehicle_word` meets its contract: form, then what the word does.
use Rattle.word_steps.proofs.Forming.{vehicle_formed, misformed, goes_on_lem}
use Rattle.word_steps.proofs.Stepping.{vehicle_out}
use Rattle.word_steps.specs.Steps.{is_met_in}
use Rattle.word_steps.proofs.words.vehicle_word.Goals as goal

pub returns-then-not-y-number : goal.returns-then-not-y-number
returns-then-not-y-number c = λ met. search (misformed, vehicle_formed)

pub returns : goal.returns
unfolding is_met_in
returns c = λ met. search (goes_on_lem, vehicle_formed, vehicle_out)
