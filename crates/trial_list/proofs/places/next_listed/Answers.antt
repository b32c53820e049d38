-- `trial_list::places::next_listed` meets its contract.
use Rattle.trial_list.proofs.Passing.{next_none}
use Rattle.trial_list.proofs.places.next_listed.Goals as goal

pub returns : goal.returns
returns g c =
    let l = c.loop-place in
    let r = c.passed.ensures in
    record {
      tells = next_none _ _ l.invariant.1 (c.is_inside.ensures.over c.loop-place-test.false) r.trial r.next;
      fits = rw r.next l.invariant.0;
    }
