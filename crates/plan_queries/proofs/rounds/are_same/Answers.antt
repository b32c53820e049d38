-- `plan_queries::rounds::are_same` meets its contract: the words that count, compared in order.
use Rattle.std.proofs.Common.{rules, tests, nat_cmp}
use Rattle.std.proofs.lemmas.Iterator.{YieldsList-from_slice}
use Rattle.std.proofs.lemmas.Iterator.Consumers.{YieldsList-at, YieldsList-from_filter}
use Rattle.std.proofs.lemmas.Iterator.Search.{cmp_from_yields_List}
use Prim.Native.Nat.{ℕ}
use mathlib.Core.Path.{◌≡◌, refl, ◌∙◌}
use mathlib.Core.Bool.{Bool}
use Rattle.rules.specs.PlanWords.{word_of}
use Rattle.rules.specs.SameRounds.{is_visit, counts}
use Rattle.plan_queries.proofs.RoundsCompared.{counted_same}
use Rattle.plan_queries.proofs.rounds.are_same.Goals as goal

pub returns : goal.returns
returns c =
    let p : ℕ → Bool = λ w. counts is_visit (word_of w) in
    c.is_eq.ensures
    ∙ counted_same c.args.first.now c.args.second.now
    (cmp_from_yields_List (λ x y. y ≡ x) c.filter-second.result nat_cmp _ c.cmp.ensures.ran
    (YieldsList-from_filter _ p (YieldsList-from_slice c.args.first.now cc) c.filter-first.ensures.closure (λ x r q k. search (rules, tests)))
    (λ it e. YieldsList-at {t = c.filter-second.result} e
    (YieldsList-from_filter _ p (YieldsList-from_slice c.args.second.now cc) c.filter-second.ensures.closure (λ x r q k. search (rules, tests))))
    (λ x y. refl))
