-- `trips::cargo::Limits::is_over` meets its contract: the day's limits in place of those read.
use native.Mathlib.Omega.{arith}
use Rattle.trips.proofs.Loading.{over_any}
use Rattle.trips.proofs.cargo.Limits.is_over.Goals as goal

pub returns : goal.returns
returns c = λ day limits. over_any day _ (omega (arith, limits.load_is)) (omega (arith, limits.kg_is)) (omega (arith, limits.visits_is))
