-- `neighbours::table::fill_row` meets its contract.
use mathlib.Core.Path.{◌≡◌}
use Rattle.neighbours.specs.Tables.{key_after, RowBy}
use Rattle.neighbours.proofs.table.fill_row.Given as goal

abbrev pub invariant-loop-place : goal.invariant-loop-place
invariant-loop-place l = RowBy l.keys l.place-index l.row × (l.last ≡ key_after l.keys 0 l.place-index)
