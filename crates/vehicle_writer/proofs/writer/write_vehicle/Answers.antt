-- `vehicle_writer::writer::write_vehicle` meets its contract.
use Rattle.vehicle_writer.proofs.SettingOut.{out_idle, out_room, out_under_way, out_written}
use borrow.Author.Rules.{rules}
use Rattle.vehicle_writer.proofs.writer.write_vehicle.Goals as goal

pub returns-then-not-has_task : goal.returns-then-not-has_task
returns-then-not-has_task c = search out_idle

pub write_start-requires : goal.write_start-requires
write_start-requires c = search (rules, out_room)

pub write_tasks-requires : goal.write_tasks-requires
write_tasks-requires c = search out_under_way

pub returns : goal.returns
returns c =
    out_written c.set_out-ready.ensures c.has_task.ensures c.if-not-has_task.false c.write_start.ensures.said _ c.write_tasks.ensures.ends (search rules)
