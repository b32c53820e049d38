-- `ways_home::nearest::nearest_of_first`: after the first k tips the tip carried along is the rule's for those k alone.
use mathlib.Core.Path.{◌≡◌}
use Rattle.rules.specs.Tests.{least}
use Rattle.rules.specs.Fields.{tips, leg_minutes}
use Rattle.rules.specs.Home.{open_tip}
use Rattle.ways_home.specs.Bests.{BestBy}
use Rattle.ways_home.proofs.nearest.nearest_of_first.Given as goal

abbrev pub invariant-loop-k : goal.invariant-loop-k
invariant-loop-k l = BestBy (leg_minutes l.day l.place) (tips l.day) l.best × (l.best.number ≡ least (open_tip l.day l.place l.minute) (leg_minutes l.day l.place) l.k)
