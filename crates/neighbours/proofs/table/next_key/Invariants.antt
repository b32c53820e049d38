-- `neighbours::table::next_key` meets its contract.
use Prim.Native.Nat.{◌≤◌}
use mathlib.Core.Path.{◌≡◌}
use lib.ListN.{take}
use Rattle.neighbours.specs.Tables.{no_key, least_above}
use Rattle.neighbours.proofs.table.next_key.Given as goal

abbrev pub invariant-loop-key : goal.invariant-loop-key
invariant-loop-key l = (l.best ≤ no_key) × (l.best ≡ least_above l.last (take l.key-index l.keys))
