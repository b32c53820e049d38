-- `roots::above` meets its contract.
use Rattle.roots.proofs.RootLaws.{mean_above}
use Rattle.roots.proofs.above.Goals as goal

pub returns : goal.returns
returns c = mean_above _ _ c.requires.0 c.requires.1 c.requires.2
