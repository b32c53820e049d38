-- `trial_list::listing::next_trial` meets its contract.
use mathlib.Core.Path.{refl}
use Rattle.trial_list.proofs.Passing.{some_tested, none_tested}
use Rattle.trial_list.proofs.ListRests.{lists_pair, lists_tip}
use Rattle.trial_list.proofs.listing.next_trial.Goals as goal

pub returns-then-is_some : goal.returns-then-is_some
returns-then-is_some c = lists_pair _ _ _ _ c.requires.1 c.next_listed-pair.ensures (some_tested _ c.is_some.ensures c.if-is_some.true) refl refl

pub returns : goal.returns
returns c = lists_tip _ _ _ _ c.requires.1 c.next_listed-pair.ensures _ (none_tested _ c.is_some.ensures c.if-is_some.false) c.next_listed-tip.ensures refl refl
