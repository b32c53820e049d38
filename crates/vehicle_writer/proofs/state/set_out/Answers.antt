-- `vehicle_writer::state::set_out` meets its contract.
use Rattle.vehicle_writer.proofs.ReadyLaws.{fresh_ready}
use Rattle.vehicle_writer.proofs.state.set_out.Goals as goal

pub returns : goal.returns
returns c = search fresh_ready
