-- `vehicle_writer::writer::write_tasks` meets its contract.
use Rattle.vehicle_writer.proofs.EndLaws.{still_space, still_ahead, still_less, still_end}
use Rattle.vehicle_writer.proofs.writer.write_tasks.Goals as goal

pub write_task-ready-requires : goal.write_task-ready-requires
write_task-ready-requires c = search still_ahead

pub loop-words-smaller : goal.loop-words-smaller
loop-words-smaller c = search still_less

pub put-requires : goal.put-requires
put-requires c = search still_space

pub returns-clause-ends : goal.returns-clause-ends
returns-clause-ends c = search still_end
