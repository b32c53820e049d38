-- `walks::vehicle::walk_change` meets its contract.
use Rattle.walks.proofs.RewalkLaws.{change_none, change_one, change_failed, change_two, some_one, some_first, some_second}
use Rattle.walks.proofs.vehicle.walk_change.Goals as goal

pub walk_word-requires : goal.walk_word-requires
walk_word-requires c = (c.requires.0, some_one (rw c.in-One.is at c.requires.1))

pub returns-in-One : goal.returns-in-One
returns-in-One c = rw c.in-One.is (change_one c.walk_word.ensures)

pub walk_word-requires-in-Two : goal.walk_word-requires-in-Two
walk_word-requires-in-Two c = (c.requires.0, some_first (rw c.in-Two.is at c.requires.1))

pub returns-in_err-next-in-Two : goal.returns-in_err-next-in-Two
returns-in_err-next-in-Two c = rw (c.in-Two.is, c.from_residual.ensures) (change_failed c.in_err-next-in-Two.ensures)

pub walk_word-requires-in-Two-2 : goal.walk_word-requires-in-Two-2
walk_word-requires-in-Two-2 c = (c.requires.0, some_second (rw c.in-Two.is at c.requires.1) c.in_ok-next-in-Two.ensures)

pub returns-in-Gone : goal.returns-in-Gone
returns-in-Gone c = rw c.in-Gone.is change_none

pub returns-in_ok-next-in-Two : goal.returns-in_ok-next-in-Two
returns-in_ok-next-in-Two c = rw c.in-Two.is (change_two c.in_ok-next-in-Two.ensures c.walk_word-in-Two-2.ensures)
