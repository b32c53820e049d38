-- `ways_home::ways::is_way_home` meets its contract.
use mathlib.Core.Path.{refl}
use native.Mathlib.Omega.{arith}
use Rattle.ways_home.proofs.HomeLaws.{empty_home, loaded_home, tip_none, rest_small}
use Rattle.ways_home.proofs.ways.is_way_home.Goals as goal

pub is_home_direct-requires : goal.is_home_direct-requires
is_home_direct-requires c =
    let s = rest_small _ _ _ _ c.requires c.rest_if_due-rested.ensures in
    (s.place, omega (arith, s.minute))

pub returns-then-load-eq0 : goal.returns-then-load-eq0
returns-then-load-eq0 c = search empty_home

pub nearest_tip-requires : goal.nearest_tip-requires
nearest_tip-requires c =
    let s = rest_small _ _ _ _ c.requires c.rest_if_due-rested.ensures in
    (s.place, s.minute)

pub is_home_by_tip-requires : goal.is_home_by_tip-requires
is_home_by_tip-requires c = let tip = c.in-Some.ensures.within in (rest_small _ _ _ _ c.requires c.rest_if_due-rested.ensures, tip.0, tip.1)

pub returns-in-Some : goal.returns-in-Some
returns-in-Some c = loaded_home _ _ _ _ _ c.if-load-eq0.false c.rest_if_due-rested.ensures c.in-Some.ensures.number_is c.is_home_by_tip.ensures

pub returns-in-None : goal.returns-in-None
returns-in-None c = loaded_home _ _ _ _ _ c.if-load-eq0.false c.rest_if_due-rested.ensures c.in-None.ensures.number_is (tip_none _ _ 0 refl)
