-- `tracks::before::put_cab` meets its contract.
use borrow.Author.Rules.{rules}
use mathlib.Core.Path.{◌≡◌}
use native.Mathlib.Omega.{arith}
use Rattle.tracks.specs.Before.{row_if}
use Rattle.tracks.proofs.CabRows.{row_written, row_kept}
use Rattle.tracks.proofs.before.put_cab.Goals as goal

pub returns-clause-holds : goal.returns-clause-holds
returns-clause-holds c = let r : c.map.result ≡ row_if c.args.cab = search rules in row_written c.args.before.now c.args.at c.args.cab (omega arith) r

pub returns-clause-others : goal.returns-clause-others
returns-clause-others c = row_kept c.args.before.now c.args.at c.map.result
