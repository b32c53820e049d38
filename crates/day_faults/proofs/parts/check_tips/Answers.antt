-- `day_faults::parts::check_tips` meets its contract: what the words hold.
use native.Mathlib.Omega.{arith}
use mathlib.Core.Path.{refl}
use Rattle.day.proofs.Forms.{tip_window_form, tip_service_form}
use Rattle.day_faults.proofs.parts.check_tips.Goals as goal

pub check_window-requires-clause-form : goal.check_window-requires-clause-form
check_window-requires-clause-form c = tip_window_form _ _ c.loop-tip.tip (omega arith) _ refl

pub check_number-requires-clause-form : goal.check_number-requires-clause-form
check_number-requires-clause-form c = tip_service_form _ _ c.loop-tip.tip (omega arith) _ refl
