-- `solomon_form::line_offence` meets its contract: the fields so far are without fault.
use Rattle.solomon_form.specs.Reading.{LineRead}
use Rattle.solomon_form.proofs.line_offence.Given as goal

abbrev pub invariant-loop-i : goal.invariant-loop-i
invariant-loop-i l = LineRead l.text l.j l.i l.place l.before
