-- `solomon_form::line_offence` meets its contract: the fields so far are without fault.
use mathlib.Core.Path.{◌≡◌, sym, ◌∙◌}
use borrow.Author.Rules.{rules}
use Rattle.std.proofs.lemmas.Result.{err_from_is_err_and}
use Rattle.rules.specs.SolomonForm.{found_at}
use Rattle.solomon_form.proofs.LineLaws.{line_start, line_fault, line_next, line_end}
use Rattle.solomon_form.proofs.line_offence.Goals as goal

pub loop-i-init : goal.loop-i-init
loop-i-init c = search line_start

pub returns-in_err-map_err : goal.returns-in_err-map_err
returns-in_err-map_err c =
    let told : c.map_err.result ≡ found_at c.loop-i.place c.field_fault.result = search rules in
    let p = err_from_is_err_and c.from_residual.result c.from_residual.ensures.1 in
    rw (p.1, p.2) (line_fault _ _ c.loop-i.invariant c.loop-i-test.true c.field_fault.ensures (sym told ∙ c.in_err-map_err.was))

pub loop-i-preserved : goal.loop-i-preserved
loop-i-preserved c =
    let told : c.map_err.result ≡ found_at c.loop-i.place c.field_fault.result = search rules in
    line_next _ _ c.loop-i.invariant c.loop-i-test.true c.field_fault.ensures (sym told ∙ c.in_ok-map_err.was) c.next_field-place.ensures

pub returns : goal.returns
returns c = search line_end
