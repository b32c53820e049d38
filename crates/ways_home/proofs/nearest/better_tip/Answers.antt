-- `ways_home::nearest::better_tip` meets its contract.
use Rattle.ways_home.proofs.TipLaws.{tip_farther, tip_shut, tip_nearer}
use Rattle.ways_home.proofs.nearest.better_tip.Goals as goal

pub returns-then-is_open-clause-choice : goal.returns-then-is_open-clause-choice
returns-then-is_open-clause-choice c = search tip_nearer

pub returns-else-is_open-clause-choice : goal.returns-else-is_open-clause-choice
returns-else-is_open-clause-choice c = search tip_shut

pub returns-else-away-best-clause-choice : goal.returns-else-away-best-clause-choice
returns-else-away-best-clause-choice c = search tip_farther
