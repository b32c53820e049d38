-- `solomon_form::faults::customer_fault` meets its contract.
use Rattle.solomon_form.proofs.FieldFaults.{customer_ranged}
use Rattle.solomon_form.proofs.faults.customer_fault.Goals as goal

pub returns-in_default-2 : goal.returns-in_default-2
returns-in_default-2 c = search customer_ranged
