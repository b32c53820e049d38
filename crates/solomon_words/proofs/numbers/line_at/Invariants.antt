-- `solomon_words::numbers::line_at` meets its contract.
use mathlib.Core.Path.{◌≡◌}
use Rattle.rules.specs.TextFields.{line_at}
use Rattle.solomon_words.proofs.numbers.line_at.Given as goal

abbrev pub invariant-loop : goal.invariant-loop
invariant-loop l = l.at ≡ line_at l.text l.counter
