-- `solomon_words::numbers::store_numbers` meets its contract: the numbers of the customers so far are stored.
use Rattle.std.proofs.Common.{◌≡◌, ◌+◌}
use Rattle.rules.specs.TextFields.{line_at}
use Rattle.solomon_words.specs.Table.{Stored}
use Rattle.solomon_words.proofs.numbers.store_numbers.Given as goal

abbrev pub invariant-loop-customer : goal.invariant-loop-customer
invariant-loop-customer l = record {
  line : l.at ≡ line_at l.text (6 + l.customer-index);
  stored : Stored l.text l.customers l.customer-index;
}
