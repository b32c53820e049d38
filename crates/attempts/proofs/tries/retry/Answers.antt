-- `attempts::tries::retry` meets its contract.
use Rattle.edits.proofs.SmallEdits.{known_small}
use Rattle.attempts.proofs.SpanOfTrials.{valid_single}
use Rattle.attempts.proofs.TryLaws.{retry_walkable, retry_measurable, retry_short}
use Rattle.attempts.proofs.tries.retry.Goals as goal

pub span_of-span-requires : goal.span_of-span-requires
span_of-span-requires c = known_small _ _ c.requires.1

pub measure-requires : goal.measure-requires
measure-requires c =
    let s = c.requires.2 in
    let are = (retry_walkable s.trying s.inside {work = c.args.work.now} c.requires.0 c.requires.3 s.touched).are in (
      c.requires.0,
      c.requires.1,
      retry_short s.trying s.inside c.requires.0 are,
      record { tasks = _; measurable = retry_measurable s.trying s.inside c.requires.0 c.requires.3 s.touched s.tracked (c.span_of-span.ensures _ are (valid_single _ s.inside s.trying.valid)) },
    )

pub returns : goal.returns
returns c =
    λ rounds t k l y.
    let are = (retry_walkable t l {work = c.args.work.now} c.requires.0 c.requires.3 y).are in
    c.measure.ensures _ (retry_measurable t l c.requires.0 c.requires.3 y k (c.span_of-span.ensures _ are (valid_single _ l t.valid)))
