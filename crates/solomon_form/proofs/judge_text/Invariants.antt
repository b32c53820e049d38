-- `solomon_form::judge_text` meets its contract: the lines so far are without fault.
use Rattle.solomon_form.specs.Reading.{TextRead}
use Rattle.solomon_form.proofs.judge_text.Given as goal

abbrev pub invariant-loop-j : goal.invariant-loop-j
invariant-loop-j l = TextRead l.text l.j l.at
