-- `day_faults::parts::check_stops` meets its contract: what the words hold.
use native.Mathlib.Omega.{arith}
use Rattle.day.proofs.Forms.{stop_window_form, stop_service_form, stop_quantity_form}
use Rattle.day_faults.proofs.parts.check_stops.Goals as goal

pub check_window-requires-clause-form : goal.check_window-requires-clause-form
check_window-requires-clause-form c = stop_window_form _ _ c.loop-stop.stop (omega arith) _ (omega arith)

pub check_number-requires-clause-form : goal.check_number-requires-clause-form
check_number-requires-clause-form c = stop_service_form _ _ c.loop-stop.stop (omega arith) _ (omega arith)

pub check_number-requires-in-loop-stop-clause-form : goal.check_number-requires-in-loop-stop-clause-form
check_number-requires-in-loop-stop-clause-form c = stop_quantity_form _ _ c.loop-stop.stop (omega arith) _ (omega arith)
