-- `text_fields::number_at` meets its contract.
use denote.Ref.{Bor}
use Prim.Native.Nat.{ℕ, ◌≤◌}
use mathlib.Core.Path.{refl}
use native.Mathlib.Omega.{arith}
use borrow.Author.Rules.{rules}
use borrow.Author.Tests.{tests}
use Rattle.std.proofs.lemmas.Fn.{serves_by}
use Rattle.std.proofs.lemmas.Iterator.{YieldsList-from_slice}
use Rattle.std.proofs.lemmas.Iterator.Search.{YieldsList-from_take_while}
use Rattle.std.proofs.lemmas.Iterator.Consumers.{fold_from_yields_List}
use Rattle.rules.specs.TextFields.{is_digit}
use Rattle.text_fields.proofs.Numbers.{digit_low, grown, number_folded}
use Rattle.text_fields.proofs.Taken.{taken_passes}
use Rattle.text_fields.proofs.number_at.Goals as goal

-- each digit is one, and the number is held
pub fold-requires-clause-callable : goal.fold-requires-clause-callable
fold-requires-clause-callable c =
    serves_by _ (λ bytes now. now.1 ≤ 1000000) (λ bytes now b after held called. search rules) _ _ _ _ (omega arith)
    (λ bytes state now b next yielded step held.
    let digit = digit_low b.now (taken_passes {test = λ (x : Bor ℕ). is_digit x.now} _ _ _ _ _ _ step (λ x t k. search (rules, tests))) refl in
    search rules)

pub returns : goal.returns
returns c =
    number_folded c.args.text.now c.args.at c.bytes_from.ensures
    (fold_from_yields_List _ grown _ _ c.fold.ensures.ran
    (YieldsList-from_take_while _ is_digit
    (YieldsList-from_slice c.bytes_from.result.now (search rules))
    c.take_while.ensures.closure c.take_while.ensures.done (λ b t f called. search (rules, tests)))
    (λ v b w f called. search (rules, tests)))
