-- `text_fields::pass` meets its contract.
use borrow.Author.Rules.{rules}
use borrow.Author.Tests.{tests}
use Rattle.std.proofs.lemmas.Iterator.{YieldsList-from_slice}
use Rattle.std.proofs.lemmas.Iterator.Search.{YieldsList-from_take_while}
use Rattle.std.proofs.lemmas.Iterator.Consumers.{count_from_yields_List}
use Rattle.text_fields.proofs.Passing.{passed_counted}
use Rattle.text_fields.proofs.pass.Goals as goal

pub returns-clause-passed : goal.returns-clause-passed
returns-clause-passed g c = λ kind told.
    passed_counted kind c.args.text.now c.args.at c.bytes_from.ensures
    (count_from_yields_List c.take_while.result c.count.result c.count.ensures.ran
    (YieldsList-from_take_while _ kind
    (YieldsList-from_slice c.bytes_from.result.now (search rules))
    c.take_while.ensures.closure c.take_while.ensures.done (λ x b q k. search (rules, tests, told))))
