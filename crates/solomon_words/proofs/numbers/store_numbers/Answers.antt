-- `solomon_words::numbers::store_numbers` meets its contract: the numbers of the customers so far are stored.
use Rattle.std.proofs.Common.{arith}
use Rattle.solomon_words.proofs.TableLaws.{customer_on, line_more}
use Rattle.solomon_words.proofs.numbers.store_numbers.Goals as goal

pub loop-customer-preserved : goal.loop-customer-preserved
loop-customer-preserved c = let h = c.loop-customer.invariant in record {
  line = search customer_on;
  stored = line_more _ _ _ _ h.stored (omega arith) h.line c.numbers_at.ensures;
}
