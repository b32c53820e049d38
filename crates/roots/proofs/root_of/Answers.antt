-- `roots::root_of` meets its contract: the root is at most r all along.
use Rattle.roots.proofs.RootLaws.{root_reached}
use Rattle.roots.proofs.root_of.Goals as goal

pub returns : goal.returns
returns c = search root_reached
