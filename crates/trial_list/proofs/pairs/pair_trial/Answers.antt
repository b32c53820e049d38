-- `trial_list::pairs::pair_trial` meets its contract.
use mathlib.Core.Path.{refl, ◌∙◌}
use Rattle.trial_list.proofs.PairRests.{tells_before, tells_after, tells_swap, tells_no_second}
use Rattle.trial_list.proofs.pairs.pair_trial.Goals as goal

pub returns-in-true-First : goal.returns-in-true-First
returns-in-true-First c =
    let pair = c.in-true-First in
    let r = c.found.ensures in
    tells_before _ _ _ _ _ _ c.requires.1 c.requires.2 pair.is-0 pair.is-1 r.trial refl (r.next ∙ c.halfway.ensures)

pub returns-in-true-Second : goal.returns-in-true-Second
returns-in-true-Second c =
    let pair = c.in-true-Second in
    let r = c.found-in-true-Second.ensures in
    tells_after _ _ _ _ _ _ c.requires.1 c.requires.2 pair.is-0 pair.is-1 r.trial refl (r.next ∙ c.next_rank.ensures)

pub returns-in-false-First : goal.returns-in-false-First
returns-in-false-First c =
    let pair = c.in-false-First in
    let r = c.found-in-false-First.ensures in
    tells_swap _ _ _ _ _ _ c.requires.1 c.requires.2 pair.is-0 pair.is-1 r.trial refl (r.next ∙ c.next_rank-in-false-First.ensures)

pub returns-in-false-Second : goal.returns-in-false-Second
returns-in-false-Second c =
    let pair = c.in-false-Second in
    let r = c.passed.ensures in
    tells_no_second _ _ _ _ _ _ c.requires.1 c.requires.2 pair.is-0 pair.is-1 r.trial (r.next ∙ c.next_rank-in-false-Second.ensures)
