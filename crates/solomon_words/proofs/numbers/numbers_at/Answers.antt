-- `solomon_words::numbers::numbers_at` meets its contract: the numbers so far are those of the line.
use Rattle.std.proofs.Common.{refl, arith}
use Rattle.rules.specs.TextFields.{field_at}
use Rattle.solomon_words.proofs.TableLaws.{field_on, number_more}
use Rattle.solomon_words.proofs.numbers.numbers_at.Goals as goal

pub loop-number-init : goal.loop-number-init
unfolding field_at
loop-number-init c = record { place = refl; stored = λ i h. absurd (omega arith) }

pub loop-number-preserved : goal.loop-number-preserved
loop-number-preserved c = let h = c.loop-number.invariant in record {
  place = search field_on;
  stored = number_more _ _ _ _ h.stored (omega arith) h.place c.number_at.ensures.0;
}
