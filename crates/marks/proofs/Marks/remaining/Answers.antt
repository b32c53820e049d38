-- `Marks::remaining` counts the marks, word by word; the sum fits, since a word has at most 64 ones.
use Rattle.std.proofs.Common.{rules, ◌∙◌, sym, refl, arith}
use Rattle.std.proofs.lemmas.List.Recursion.{is_sum_by}
use Rattle.std.proofs.lemmas.Iterator.{YieldsList-from_slice, YieldsList-from_map}
use Rattle.std.proofs.lemmas.Iterator.Adapters.{fits_from_length, at_most_from_yields_List}
use Rattle.std.proofs.lemmas.Iterator.Consumers.{sum_by_from_yields_List}
use borrow.Author.Tests.{tests}
use lib.Count.{ones}
use mir.Syntax.{w64}
use Rattle.laws.specs.Marks.{ones_of}
use Rattle.laws.proofs.Arrays.{array_length}
use Rattle.marks.proofs.Marks.remaining.Goals as goal

pub sum-requires-clause-fits : goal.sum-requires-clause-fits
sum-requires-clause-fits c =
    fits_from_length _ _ 4 _
    (at_most_from_yields_List (YieldsList-from_slice c.args.self.words (cc)) (omega (arith, array_length w64 4 c.args.self.words _ c.well_formed.0.1.1.0)))
    c.map.ensures.closure (omega arith) (λ x r q k. search (rules, tests))

pub returns : goal.returns
unfolding ones_of
returns c =
    sum_by_from_yields_List ones c.args.self.words c.map.result _ c.sum.ensures.ran
    (YieldsList-from_map _ ones (YieldsList-from_slice c.args.self.words (cc)) c.map.ensures.closure (λ x r q k. search (rules, tests)))
    ∙ sym (is_sum_by ones_of ones refl (λ _ _. refl) c.args.self.words)
