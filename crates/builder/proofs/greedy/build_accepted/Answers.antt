-- `builder::greedy::build_accepted` meets its contract.
use Rattle.builder.proofs.BuiltPlans.{short_answer, short_buffer, long_buffer, long_answer, not_refused, plan_fits, plan_cut}
use Rattle.day.proofs.Ranges.{accepted_ranges}
use native.Mathlib.Omega.{arith}
use Rattle.builder.proofs.greedy.build_accepted.Goals as goal

pub returns-then-plan-need-clause-answer : goal.returns-then-plan-need-clause-answer
returns-then-plan-need-clause-answer c = search short_answer

pub returns-then-plan-need-clause-buffer : goal.returns-then-plan-need-clause-buffer
returns-then-plan-need-clause-buffer c = search short_buffer

pub write_plan-written-requires : goal.write_plan-written-requires
write_plan-written-requires c = ((accepted_ranges _ c.requires).stops_most, omega (arith, c.stops-need.ensures.count, c.if-plan-need.false))

pub slice_bounds-check_laid_out-end : goal.slice_bounds-check_laid_out-end
slice_bounds-check_laid_out-end c = search plan_fits

pub slice_bounds-check_laid_out-end-2 : goal.slice_bounds-check_laid_out-end-2
slice_bounds-check_laid_out-end-2 c = search plan_cut

pub returns-in-Lawful-clause-answer : goal.returns-in-Lawful-clause-answer
returns-in-Lawful-clause-answer c = search long_answer

pub returns-in-Lawful-clause-buffer : goal.returns-in-Lawful-clause-buffer
returns-in-Lawful-clause-buffer c = search long_buffer

pub returns-in-Refused-clause-answer : goal.returns-in-Refused-clause-answer
returns-in-Refused-clause-answer c = absurd (search not_refused)

pub returns-in-Refused-clause-buffer : goal.returns-in-Refused-clause-buffer
returns-in-Refused-clause-buffer c = absurd (search not_refused)
