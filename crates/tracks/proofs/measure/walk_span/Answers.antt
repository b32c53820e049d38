-- `tracks::measure::walk_span` meets its contract.
use mathlib.Core.Path.{refl, sym, ◌∙◌}
use mathlib.Core.Option.{some}
use Rattle.walks.specs.Cabs.{on_road}
use Rattle.walks.proofs.HomeLaws.{standing_done, again_back}
use Rattle.walks.proofs.MidwayLaws.{midway_task, midway_step, midway_fails, midway_done, midway_whole}
use Rattle.tracks.proofs.MeasureLaws.{drives_none, left_drives, left_small}
use Rattle.tracks.proofs.measure.walk_span.Goals as goal

pub drive_onward-requires : goal.drive_onward-requires
drive_onward-requires c =
    let s = c.requires.4 in
    left_small s.cuttable (c.loop-task.invariant s.tasks s.start s.p s.cuttable s.midway) c.loop-task-test.true refl (sym c.is_cut.ensures ∙ c.if-is_cut.true) c.requires.3

pub returns-then-is_cut : goal.returns-then-is_cut
returns-then-is_cut c = λ ts start p h m. left_drives h (c.loop-task.invariant ts start p h m) c.loop-task-test.true refl (sym c.is_cut.ensures ∙ c.if-is_cut.true) c.drive_onward.ensures

pub walk_task-requires : goal.walk_task-requires
walk_task-requires c =
    let s = c.requires.4 in (
      c.requires.0,
      c.requires.1,
      midway_task s.cuttable.walkable c.loop-task-test.true 0 (c.loop-task.invariant s.tasks s.start s.p s.cuttable s.midway),
    )

pub returns-in_err-cab : goal.returns-in_err-cab
returns-in_err-cab c =
    λ ts start p h m.
    rw c.from_residual.ensures (drives_none _ _ ts (midway_fails h.walkable c.loop-task-test.true 0 (c.loop-task.invariant ts start p h m) c.in_err-cab.ensures))

pub loop-task-preserved : goal.loop-task-preserved
loop-task-preserved c = λ ts start p h m. midway_step h.walkable c.loop-task-test.true 0 (c.loop-task.invariant ts start p h m) c.in_ok-cab.ensures

pub come_back-requires : goal.come_back-requires
come_back-requires c =
    let s = c.requires.4 in
    (c.requires.0, standing_done (midway_done s.cuttable.walkable c.loop-task-test.false (c.loop-task.invariant s.tasks s.start s.p s.cuttable s.midway)))

pub returns-in_err-back : goal.returns-in_err-back
returns-in_err-back c =
    λ ts start p h m.
    let w = c.loop-task.invariant ts start p h m in
    rw c.from_residual-in_err-back.ensures (again_back _ _ _ _ h.walkable.edited (midway_whole h.walkable c.loop-task-test.false w) (c.in_err-back.ensures start _ p (some _) (on_road _ _ (midway_done h.walkable c.loop-task-test.false w))))

pub returns : goal.returns
returns c =
    λ ts start p h m.
    let w = c.loop-task.invariant ts start p h m in
    again_back _ _ _ _ h.walkable.edited (midway_whole h.walkable c.loop-task-test.false w) (c.in_ok-back.ensures start _ p (some _) (on_road _ _ (midway_done h.walkable c.loop-task-test.false w)))
