-- `solomon_words::numbers::numbers_at` meets its contract: the numbers so far are those of the line.
use Rattle.std.proofs.Common.{◌≡◌, ℕ, ◌<◌, get_or}
use Rattle.rules.specs.TextFields.{field_at}
use Rattle.text_fields.specs.Runs.{held_at}
use Rattle.solomon_words.proofs.numbers.numbers_at.Given as goal

abbrev pub invariant-loop-number : goal.invariant-loop-number
invariant-loop-number l = record {
  place : l.place ≡ field_at l.text l.at l.number-index;
  stored : (i : ℕ) → i < l.number-index → get_or l.number-items i 0 ≡ held_at l.text (field_at l.text l.at i);
}
