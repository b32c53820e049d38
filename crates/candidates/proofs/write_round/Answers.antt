-- `candidates::write_round` meets its contract.
use borrow.Author.Rules.{rules}
use Rattle.candidates.proofs.CandidateLaws.{round_walkable, some_walkable, round_walked, round_fails}
use Rattle.candidates.proofs.write_round.Goals as goal

pub walk_vehicle-requires : goal.walk_vehicle-requires
walk_vehicle-requires c = search (rules, some_walkable)

pub returns-in_err-walked : goal.returns-in_err-walked
returns-in_err-walked c = λ tasks h. rw c.from_residual.ensures (round_fails _ c.if-touched.true tasks (c.in_err-walked.ensures tasks (round_walkable c.if-touched.true tasks h)))

pub returns-then-touched : goal.returns-then-touched
returns-then-touched c = λ tasks h. round_walked _ c.if-touched.true tasks (c.in_ok-walked.ensures tasks (round_walkable c.if-touched.true tasks h))
