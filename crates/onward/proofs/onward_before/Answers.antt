-- `onward::onward_before` meets its contract.
use Rattle.plan_words.proofs.WordForms.{word_is}
use Rattle.onward.proofs.FirstLaws.{stop_number, tip_number}
use Rattle.onward.proofs.onward_before.Goals as goal

pub stop_first-requires : goal.stop_first-requires
stop_first-requires c =
    let p = c.requires in
    let n = stop_number _ _ _ p.0 (word_is _ c.in-Some-Stop.ensures c.in-Some-Stop.field-0-is) in
    (n.0, n.1, p.1, p.2)

pub tip_first-requires : goal.tip_first-requires
tip_first-requires c =
    let p = c.requires in
    (tip_number _ _ _ p.0 (word_is _ c.in-Some-Tip.ensures c.in-Some-Tip.field-0-is), p.1, p.2)
