-- `text::put::Text::put_decimal` meets its contract.
use Rattle.std.proofs.Common.{ap, arith, ◌++◌, ◌∙◌, ◌≤◌}
use Rattle.text.proofs.DigitLaws.{decimal_spelled}
use Rattle.text.proofs.put.Text.put_decimal.Goals as goal

pub returns-clause-text : goal.returns-clause-text
returns-clause-text g c =
    let few : c.decimal-count.result ≤ 20 = omega (arith, c.decimal-count.ensures.in_bounds) in
    c.put_all.ensures ∙ ap (λ (digits : _). c.args.self.now ++ digits) (c.decimal-count.ensures.digits ∙ decimal_spelled _ _ c.decimal-count.ensures.len few)
