-- `tracks::measure::measure` meets its contract.
use native.Mathlib.Omega.{arith}
use Rattle.laws.proofs.Buffer.{wrote_put, wrote_none}
use Rattle.tracks.proofs.MeasureLaws.{measure_failed, measure_starts}
use Rattle.tracks.proofs.measure.measure.Goals as goal

pub returns-in_err-cab : goal.returns-in_err-cab
returns-in_err-cab c = λ ts h. rw c.from_residual.ensures (measure_failed h c.in_err-cab.ensures)

pub walk_span-requires : goal.walk_span-requires
walk_span-requires c =
    let s = c.requires.3 in
    let w = measure_starts s.measurable c.in_ok-cab.ensures (wrote_put (wrote_none _) _ (omega (arith, s.measurable.cuttable.walkable.room))) in (
      c.requires.0,
      c.requires.1,
      c.args.tracks.now.behind_size,
      c.requires.2,
      record { tasks = s.tasks; start = w.start; p = _; cuttable = s.measurable.cuttable; midway = w.midway },
    )

pub returns : goal.returns
returns c =
    λ ts h.
    let w = measure_starts h c.in_ok-cab.ensures (wrote_put (wrote_none _) _ (omega (arith, h.cuttable.walkable.room))) in
    c.walk_span.ensures ts w.start _ h.cuttable w.midway
