-- `solomon_form::judge_text` meets its contract: the lines so far are without fault.
use mathlib.Core.Path.{◌≡◌}
use mathlib.Core.Bool.{true, false}
use native.Mathlib.Omega.{arith}
use borrow.Author.Rules.{rules}
use borrow.Author.Tests.{tests}
use Rattle.std.proofs.lemmas.Result.{err_from_is_err_and}
use Rattle.solomon_form.proofs.LineLaws.{over_lines, text_start, text_over, text_fault, text_next, text_last}
use Rattle.solomon_form.proofs.judge_text.Goals as goal

pub loop-j-init : goal.loop-j-init
loop-j-init c = search text_start

pub overflow_sub-j : goal.overflow_sub-j
overflow_sub-j c = search over_lines

pub returns-then-is_over : goal.returns-then-is_over
returns-then-is_over c = rw c.from.ensures (text_over _ c.loop-j.invariant c.is_over.ensures c.if-is_over.true)

pub returns-in_err-line_offence : goal.returns-in_err-line_offence
returns-in_err-line_offence c =
    let p = err_from_is_err_and c.from_residual.result c.from_residual.ensures.1 in
    rw (p.1, p.2) (text_fault _ c.loop-j.invariant c.is_over.ensures c.if-is_over.false c.in_err-line_offence.ensures)

pub loop-j-preserved : goal.loop-j-preserved
loop-j-preserved c =
    text_next _ c.loop-j.invariant c.is_over.ensures c.if-is_over.false c.loop-j-test.true c.in_ok-line_offence.ensures c.next_line-at.ensures

-- behind the loop line 247 comes next
pub returns-in_err-line_offence-2 : goal.returns-in_err-line_offence-2
returns-in_err-line_offence-2 c =
    let end : c.loop-j.j ≡ 247 = omega arith in
    let there : c.is_over-2.result ≡ false = search (rules, tests) in
    let p = err_from_is_err_and c.from_residual-in_err-line_offence-2.result c.from_residual-in_err-line_offence-2.ensures.1 in
    rw (p.1, p.2) (text_fault _ (rw end at c.loop-j.invariant) c.is_over-2.ensures there c.in_err-line_offence-2.ensures)

pub returns-in_ok-line_offence-2 : goal.returns-in_ok-line_offence-2
returns-in_ok-line_offence-2 c =
    let end : c.loop-j.j ≡ 247 = omega arith in
    let there : c.is_over-2.result ≡ false = search (rules, tests) in
    text_last _ (rw end at c.loop-j.invariant) c.is_over-2.ensures there (omega arith) c.in_ok-line_offence-2.ensures

pub returns-else-not-is_over : goal.returns-else-not-is_over
returns-else-not-is_over c =
    let end : c.loop-j.j ≡ 247 = omega arith in
    let gone : c.is_over-2.result ≡ true = search (rules, tests) in
    text_over _ (rw end at c.loop-j.invariant) c.is_over-2.ensures gone
