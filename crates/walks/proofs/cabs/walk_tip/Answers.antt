-- `walks::cabs::walk_tip` meets its contract.
use Rattle.walks.proofs.WalkLaws.{tip_dropped, tip_driven}
use Rattle.walks.proofs.cabs.walk_tip.Goals as goal

pub returns-then-cab-eq0 : goal.returns-then-cab-eq0
returns-then-cab-eq0 c = search tip_dropped

pub returns : goal.returns
returns c = search tip_driven
