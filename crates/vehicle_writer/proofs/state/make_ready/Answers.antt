-- `vehicle_writer::state::make_ready` meets its contract.
use Rattle.vehicle_writer.proofs.StateLaws.{rested_trip, rested_cargo}
use borrow.Author.Rules.{rules}
use Rattle.vehicle_writer.proofs.state.make_ready.Goals as goal

pub next_task-requires : goal.next_task-requires
next_task-requires c = search (rules, rested_trip, rested_cargo)
