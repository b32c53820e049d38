-- `vehicle_writer::writer::write_start` meets its contract.
use Rattle.vehicle_writer.proofs.SettingOut.{start_said}
use Rattle.vehicle_writer.proofs.writer.write_start.Goals as goal

pub returns-clause-said : goal.returns-clause-said
returns-clause-said c = search start_said
