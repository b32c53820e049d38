-- `walks::vehicle::walk_vehicle` meets its contract.
use mathlib.Core.Path.{refl}
use native.Mathlib.Omega.{arith}
use Rattle.walks.proofs.HomeLaws.{through_done, walked_failed, back_room, walked_back}
use Rattle.walks.proofs.vehicle.walk_vehicle.Goals as goal

pub come_back-requires : goal.come_back-requires
come_back-requires c = let s = c.requires.3 in (c.requires.0, through_done s.walkable (c.walk_tasks-cab.ensures s.tasks s.walkable))

pub returns-in_err-walked : goal.returns-in_err-walked
returns-in_err-walked c = λ ts h. rw c.from_residual.ensures (walked_failed h (c.walk_tasks-cab.ensures ts h) c.in_err-walked.ensures)

pub overflow_sub-part : goal.overflow_sub-part
overflow_sub-part c = let s = c.requires.3 in (back_room s.walkable (c.walk_tasks-cab.ensures s.tasks s.walkable) c.in_ok-walked.ensures).0

pub offset_bounds-part-walked : goal.offset_bounds-part-walked
offset_bounds-part-walked c =
    let s = c.requires.3 in
    omega (arith, (back_room s.walkable (c.walk_tasks-cab.ensures s.tasks s.walkable) c.in_ok-walked.ensures).1, c.well_formed)

pub bounds-part-walked : goal.bounds-part-walked
bounds-part-walked c =
    let s = c.requires.3 in
    let b = back_room s.walkable (c.walk_tasks-cab.ensures s.tasks s.walkable) c.in_ok-walked.ensures in
    omega (arith, b.0, b.1)

pub returns : goal.returns
returns c = λ ts h. walked_back h (c.walk_tasks-cab.ensures ts h) c.in_ok-walked.ensures refl
