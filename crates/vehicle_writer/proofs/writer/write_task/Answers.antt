-- `vehicle_writer::writer::write_task` meets its contract.
use native.Mathlib.Omega.{arith}
use Rattle.vehicle_writer.proofs.GoingLaws.{ahead_space, ahead_able, ahead_room, ahead_small, ahead_on, rest_more}
use Rattle.vehicle_writer.proofs.writer.write_task.Goals as goal

pub put-requires : goal.put-requires
put-requires c = omega (arith, ahead_space c.requires)

pub do_task-done-requires : goal.do_task-done-requires
do_task-done-requires c = search ahead_able

pub write_rest-requires : goal.write_rest-requires
write_rest-requires c = search ahead_room

pub make_ready-requires : goal.make_ready-requires
make_ready-requires c = search ahead_small

pub returns-clause-grows : goal.returns-clause-grows
returns-clause-grows c = omega (arith, rest_more c.write_rest.ensures.said, c.put.ensures.put.count)

pub returns-clause-goes_on : goal.returns-clause-goes_on
returns-clause-goes_on c = ahead_on c.requires c.word_of.ensures c.put.ensures.put c.do_task-done.ensures c.write_rest.ensures.said c.make_ready.ensures
