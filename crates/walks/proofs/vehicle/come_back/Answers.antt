-- `walks::vehicle::come_back` meets its contract.
use mathlib.Core.Path.{refl}
use native.Mathlib.Omega.{arith}
use Rattle.walks.proofs.HomeLaws.{done_standing, back_standing, back_failed, back_fails, back_comes}
use Rattle.walks.proofs.vehicle.come_back.Goals as goal

pub returns-in_err-cab : goal.returns-in_err-cab
returns-in_err-cab c = back_failed (grind arith) c.from_residual.ensures

pub walk_home-requires : goal.walk_home-requires
walk_home-requires c = (c.requires.0, done_standing c.requires.1 (grind arith))

pub returns-in_err-back : goal.returns-in_err-back
returns-in_err-back c = back_fails c.in_err-back.ensures c.from_residual-in_err-back.ensures (grind arith)

pub leg-leg-requires : goal.leg-leg-requires
leg-leg-requires c = ((back_standing c.requires.1 c.in_ok-back.ensures (grind arith)).trip.place, omega arith)

pub overflow_add-result : goal.overflow_add-result
overflow_add-result c = omega (arith, (back_standing c.requires.1 c.in_ok-back.ensures (grind arith)).space.few)

pub overflow_add-result-2 : goal.overflow_add-result-2
overflow_add-result-2 c = omega (arith, (back_standing c.requires.1 c.in_ok-back.ensures (grind arith)).trip.distance, c.leg-leg.ensures.spans)

pub returns : goal.returns
returns c = back_comes _ c.in_ok-back.ensures c.leg-leg.ensures.spans refl refl (grind arith)
