-- `next_task::choice::Choice::is_near_capacity` meets its contract.
use native.Mathlib.Omega.{arith}
use Rattle.rules.specs.Choice.{near_capacity}
use Rattle.next_task.proofs.choice.Choice.is_near_capacity.Goals as goal

pub returns-then-day_limit-cargo : goal.returns-then-day_limit-cargo
unfolding near_capacity
returns-then-day_limit-cargo c = grind arith

pub returns-else-day_limit-cargo : goal.returns-else-day_limit-cargo
unfolding near_capacity
returns-else-day_limit-cargo c = grind arith

pub returns-else-cargo-gt0 : goal.returns-else-cargo-gt0
unfolding near_capacity
returns-else-cargo-gt0 c = grind arith
