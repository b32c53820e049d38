-- `vehicle_writer::writer::write_rest` meets its contract.
use Rattle.vehicle_writer.proofs.GoingLaws.{rest_put}
use Rattle.vehicle_writer.proofs.writer.write_rest.Goals as goal

pub returns-then-is_due-clause-said : goal.returns-then-is_due-clause-said
returns-then-is_due-clause-said c = search rest_put
