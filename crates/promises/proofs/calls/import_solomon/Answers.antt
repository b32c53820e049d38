-- `promises::calls::import_solomon` meets its contract.
use Rattle.promises.proofs.DemandOne.{import_answers, import_keeps}
use Rattle.promises.proofs.Importing.{imported_by}
use Rattle.promises.proofs.calls.import_solomon.Goals as goal

pub returns-clause-numbers : goal.returns-clause-numbers
returns-clause-numbers c = search import_answers

pub returns-clause-kept : goal.returns-clause-kept
returns-clause-kept c = search import_keeps

pub returns-clause-exactly : goal.returns-clause-exactly
returns-clause-exactly c = search imported_by
