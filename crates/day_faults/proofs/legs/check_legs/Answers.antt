-- `day_faults::legs::check_legs` meets its contract: the answer passes over a row that is right at a glance.
use native.Mathlib.Omega.{arith}
use Rattle.std.proofs.Common.{rules, ◌∙◌}
use Rattle.day_faults.proofs.Glance.{glance_passes}
use Rattle.day_faults.proofs.Judged.{row_inside}
use Rattle.day_faults.proofs.legs.check_legs.Goals.{then-not-row_right+in_ok-check_row, else-not-row_right}
use Rattle.day_faults.proofs.legs.check_legs.Goals as goal

pub slice_bounds-row_right-end : goal.slice_bounds-row_right-end
slice_bounds-row_right-end c = search (rules, row_inside)

pub loop-from-preserved : goal.loop-from-preserved
loop-from-preserved c =
    c.loop-from.invariant ∙ elim c.if-not-row_right.branch [
      | then-not-row_right+in_ok-check_row w ↦ search rules
      | else-not-row_right w ↦
          let right = c.row_right.ensures w.if-not-row_right.false in
          glance_passes _ _ _ c.loop-from.from _ _ right c.leg_index-start.ensures.at c.places-places.ensures c.args.day.now.whole.long (omega arith)
    ]
