-- `trials::search::next_step` meets its contract.
use native.Mathlib.Omega.{arith}
use borrow.Author.Rules.{rules}
use Rattle.search_steps.proofs.SearchSteps.{at_hand, held_tables, list_ends, ends_spent, next_trial}
use Rattle.trials.proofs.search.next_step.Goals as goal

pub list_next-listed-requires : goal.list_next-listed-requires
list_next-listed-requires c = let p = c.requires.buffers in
    let h = c.requires.searching.0 in
    let g = c.requires.searching.1 in
    let fit = c.args.set.now.fit in
    record { at_hand = (at_hand p.0 fit p.1 h g, (h.going g).fits, h.held.plan_at.fits); held = held_tables p.0 fit p.1 h g }

pub returns-in_default : goal.returns-in_default
returns-in_default c = let p = c.requires.buffers in
    list_ends p.0 c.args.set.now.fit p.1 c.requires.searching.0 c.requires.searching.1 c.list_next-listed.ensures c.in_default.is (search rules)

pub returns-then-s-set : goal.returns-then-s-set
returns-then-s-set c =
    let p = c.requires.buffers in
    ends_spent p.0 c.args.set.now.fit p.1 c.requires.searching.0 c.requires.searching.1 c.list_next-listed.ensures c.in-Some.is c.if-s-set.true

pub step_on-requires : goal.step_on-requires
step_on-requires c =
    let p = c.requires.buffers in
    let trial = next_trial p.0 c.args.set.now.fit p.1 c.requires.searching.0 c.requires.searching.1 c.list_next-listed.ensures c.in-Some.is c.if-s-set.false in
    record { buffers = (p.0, p.2, p.3); listed = (trial, omega (arith, trial.left)) }
