-- `trial_list::pairs::PairPlace::look` meets its contract.
use mathlib.Core.Path.{refl, ◌∙◌}
use Rattle.trial_list.proofs.PairRests.{number_none, number_some, ranks_over, neighbours_over, pair_steps, one_loose, two_loose}
use Rattle.trial_list.proofs.pairs.PairPlacePlace.look.Goals.{in_default-2-via-in-Some+in_default, in_default-2-via-in_default}
use Rattle.trial_list.proofs.pairs.PairPlacePlace.look.Goals as goal

pub returns-then-listing-self : goal.returns-then-listing-self
returns-then-listing-self c =
    let p = c.requires in
    let r = c.passed.ensures in
    ranks_over _ _ _ p.0 p.1 p.2 c.if-listing-self.true r.trial (r.next ∙ c.next_stop.ensures)

pub returns-in_default : goal.returns-in_default
returns-in_default c =
    let p = c.requires in
    let r = c.passed-in_default.ensures in
    neighbours_over _ _ _ p.0 p.1 p.2 c.if-listing-self.false 0 (number_none c.number_at.ensures c.in_default.is) refl r.trial (r.next ∙ c.next_stop-in_default.ensures)

pub returns-in-Some-Some : goal.returns-in-Some-Some
returns-in-Some-Some c =
    let p = c.requires in
    let other = number_some c.number_at.ensures c.in-Some.is in
    let one = number_some c.number_at-one.ensures c.in-Some-Some.is-0 in
    let two = number_some c.number_at-two.ensures c.in-Some-Some.is-1 in
    pair_steps _ _ _ p.0 p.1 p.2 c.if-listing-self.false _ other.0 _ _ other.1 one.0 two.0 c.pair_trial.ensures

pub returns-in_default-2 : goal.returns-in_default-2
returns-in_default-2 c =
    let p = c.requires in
    let other = number_some c.number_at.ensures c.in-Some.is in
    let r = c.passed-in_default-2.ensures in
    let next = r.next ∙ c.next_rank.ensures in
    elim c.in_default-2.branch [
      | in_default-2-via-in-Some+in_default w ↦ two_loose _ _ _ p.0 p.1 p.2 c.if-listing-self.false _ other.0 other.1 w.in_default-2.is-1 r.trial next c.number_at-two.ensures
      | in_default-2-via-in_default w ↦ one_loose _ _ _ p.0 p.1 p.2 c.if-listing-self.false _ other.0 other.1 w.in_default-2.is-0 r.trial next c.number_at-one.ensures
    ]
