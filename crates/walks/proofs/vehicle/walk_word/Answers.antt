-- `walks::vehicle::walk_word` meets its contract.
use borrow.Author.Rules.{rules}
use native.Mathlib.Omega.{arith}
use Rattle.plan_words.proofs.WordForms.{word_is}
use Rattle.walks.proofs.CabLaws.{some_rested}
use Rattle.walks.proofs.WalkLaws.{some_fewer}
use Rattle.walks.proofs.RewalkLaws.{means_stop, means_tip, word_standing, stop_standing, word_stop, word_tip, word_other, word_failed}
use Rattle.walks.proofs.vehicle.walk_word.Goals as goal

pub returns-in_err-cab-in-Some-Stop : goal.returns-in_err-cab-in-Some-Stop
returns-in_err-cab-in-Some-Stop c = word_failed (grind arith) c.from_residual.ensures

pub rest_cab-rested-requires : goal.rest_cab-rested-requires
rest_cab-rested-requires c = (c.requires.0, some_fewer (word_standing {b = c.in_ok-cab-in-Some-Stop.field-0} c.requires.1 (grind arith)))

pub walk_stop-requires : goal.walk_stop-requires
walk_stop-requires c =
    let t = means_stop c.requires.1.means (word_is _ c.in-Some-Stop.ensures c.in-Some-Stop.field-0-is) in
    let s = word_standing {b = c.in_ok-cab-in-Some-Stop.field-0} c.requires.1 (grind arith) in
    (c.requires.0, some_rested (stop_standing t s) c.rest_cab-rested.ensures, t.first, t.within)

pub returns-in_ok-cab-in-Some-Stop : goal.returns-in_ok-cab-in-Some-Stop
returns-in_ok-cab-in-Some-Stop c =
    word_stop c.rest_cab-rested.ensures (word_is _ c.in-Some-Stop.ensures c.in-Some-Stop.field-0-is) c.walk_stop.ensures (grind arith)

pub returns-in_err-cab-in-Some-Tip : goal.returns-in_err-cab-in-Some-Tip
returns-in_err-cab-in-Some-Tip c = word_failed (grind arith) c.from_residual-in_err-cab-in-Some-Tip.ensures

pub rest_cab-rested-requires-in-Some-Tip : goal.rest_cab-rested-requires-in-Some-Tip
rest_cab-rested-requires-in-Some-Tip c = (c.requires.0, some_fewer (word_standing {b = c.in_ok-cab-in-Some-Tip.field-0} c.requires.1 (grind arith)))

pub walk_tip-requires : goal.walk_tip-requires
walk_tip-requires c =
    let t = means_tip c.requires.1.means (word_is _ c.in-Some-Tip.ensures c.in-Some-Tip.field-0-is) in
    let s = word_standing {b = c.in_ok-cab-in-Some-Tip.field-0} c.requires.1 (grind arith) in
    (c.requires.0, some_rested (some_fewer s) c.rest_cab-rested-in-Some-Tip.ensures, t.first, t.within)

pub returns-in_ok-cab-in-Some-Tip : goal.returns-in_ok-cab-in-Some-Tip
returns-in_ok-cab-in-Some-Tip c =
    word_tip c.rest_cab-rested-in-Some-Tip.ensures (word_is _ c.in-Some-Tip.ensures c.in-Some-Tip.field-0-is) c.walk_tip.ensures (grind arith)

pub returns-in_default : goal.returns-in_default
returns-in_default c = word_other (search rules) (grind arith)

pub returns-in_default-2 : goal.returns-in_default-2
returns-in_default-2 c = word_other (search rules) (grind arith)
