-- `ways_home::ways::is_home_by_tip` meets its contract.
use native.Mathlib.Omega.{arith}
use Rattle.ways_home.proofs.HomeLaws.{tip_home}
use Rattle.ways_home.proofs.WayLaws.{behind_tip}
use Rattle.ways_home.proofs.ways.is_home_by_tip.Goals as goal

pub is_home_direct-requires : goal.is_home_direct-requires
is_home_direct-requires c = behind_tip _ _ _ _ _ _ c.requires.0 c.requires.2 c.after_tip-emptied.ensures c.rest_if_due-rested.ensures

pub returns : goal.returns
returns c =
    tip_home _ _ _ _ _ (λ none. omega (arith, none, c.requires.1)) c.after_tip-emptied.ensures c.rest_if_due-rested.ensures c.is_home_direct.ensures
