-- `solomon_form::faults::order_fault` meets its contract.
use native.Mathlib.Omega.{arith}
use Rattle.solomon_form.proofs.FieldFaults.{order_told}
use Rattle.solomon_form.proofs.faults.order_fault.Goals as goal

pub returns : goal.returns
returns c = search (arith, order_told)
